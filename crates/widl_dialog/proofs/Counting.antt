-- The actions and jobs of a run.
use Rattle.std.specs.Prelude.{◌≡◌, ℕ, zero, suc, refl}
use Rattle.std.proofs.Common.{sym, ap, subst}
use Rattle.widl_dialog.specs.Dialog.{Dialog, End, Say, Steps, bind}
use Rattle.widl_dialog.specs.Runs.{Did, Went, Stops, Finish, Halted, on_did, Runs, Does}
use Rattle.widl_dialog.specs.Count.{count_did, count_runs, count}

module _ {J Q A R W S : Type 0} (rule : J → Dialog J Q A R) (act : Q → W → Did W A S) where
  same_did : (n m : ℕ) (did : Did W A S) (k : A → Dialog J Q A R) (w v v' : W) (f f' : Finish R S) (g : (a : A) (u : W) → Runs rule act n (k a) u v f → ℕ) (h : (a : A) (u : W) → Runs rule act m (k a) u v' f' → ℕ) → ((a : A) (u : W) (x : Runs rule act n (k a) u v f) (y : Runs rule act m (k a) u v' f') → g a u x ≡ h a u y) → (x : on_did did (λ u a. Runs rule act n (k a) u v f) (λ s. (v ≡ w) × (f ≡ Halted s))) (y : on_did did (λ u a. Runs rule act m (k a) u v' f') (λ s. (v' ≡ w) × (f' ≡ Halted s))) → count_did rule act n did k w v f g x ≡ count_did rule act m did k w v' f' h y
  same_did n m (Went u a) k w v v' f f' g h go x y = ap (λ (c : ℕ). suc c) (go a u x y)
  same_did n m (Stops s) k w v v' f f' g h go x y = refl

  same_runs : (n m : ℕ) (d : Dialog J Q A R) (w v v' : W) (f f' : Finish R S) (x : Runs rule act n d w v f) (y : Runs rule act m d w v' f') → count_runs rule act n d w v f x ≡ count_runs rule act m d w v' f' y
  same_runs zero m d w v v' f f' x y = absurd x
  same_runs (suc n) zero d w v v' f f' x y = absurd y
  same_runs (suc n) (suc m) (End r) w v v' f f' x y = refl
  same_runs (suc n) (suc m) (Say q k) w v v' f f' x y = same_did n m (act q w) k w v v' f f' (λ a u. count_runs rule act n (k a) u v f) (λ a u. count_runs rule act m (k a) u v' f') (λ a u. same_runs n m (k a) u v v' f f') x y
  same_runs (suc n) (suc m) (Steps j k) w v v' f f' x y = ap (λ (c : ℕ). suc c) (same_runs n m (bind (rule j) k) w v v' f f' x y)

  pub same_count : {d : Dialog J Q A R} {w v v' : W} {f f' : Finish R S} (x : Does rule act d w v f) (y : Does rule act d w v' f') → count rule act x ≡ count rule act y
  unfolding count
  same_count {d = d} {w = w} {v = v} {v' = v'} {f = f} {f' = f'} x y = same_runs x.steps y.steps d w v v' f f' x.runs y.runs

  -- a task is one
  pub count_steps : (j : J) (k : R → Dialog J Q A R) {w v v' : W} {f f' : Finish R S} (x : Does rule act (bind (rule j) k) w v f) (y : Does rule act (Steps j k) w v' f') → count rule act y ≡ suc (count rule act x)
  unfolding count
  count_steps j k {w = w} {v = v} {v' = v'} {f = f} {f' = f'} x y = same_runs y.steps (suc x.steps) (Steps j k) w v' v f' f y.runs x.runs

  -- an action that goes is one
  pub count_said : (q : Q) (k : A → Dialog J Q A R) (u : W) (a : A) {w v v' : W} {f f' : Finish R S} → act q w ≡ Went u a → (x : Does rule act (k a) u v f) (y : Does rule act (Say q k) w v' f') → count rule act y ≡ suc (count rule act x)
  unfolding count
  count_said q k u a {w = w} {v = v} {v' = v'} {f = f} {f' = f'} goes x y = said y.steps y.runs
    where
      on : (n : ℕ) (did : Did W A S) → did ≡ Went u a → (r : on_did did (λ u a. Runs rule act n (k a) u v' f') (λ s. (v' ≡ w) × (f' ≡ Halted s))) → count_did rule act n did k w v' f' (λ a u. count_runs rule act n (k a) u v' f') r ≡ suc (count_runs rule act x.steps (k a) u v f x.runs)
      on n (Went o b) is r =
          let world : o ≡ u = cc in
          let answer : b ≡ a = cc in
          let here : (t : Runs rule act n (k a) u v' f') → count_runs rule act n (k a) u v' f' t ≡ count_runs rule act x.steps (k a) u v f x.runs = λ t. same_runs n x.steps (k a) u v' v f' f t x.runs in
          let at_world : (t : Runs rule act n (k a) o v' f') → count_runs rule act n (k a) o v' f' t ≡ count_runs rule act x.steps (k a) u v f x.runs =
          subst (λ (z : W). (t : Runs rule act n (k a) z v' f') → count_runs rule act n (k a) z v' f' t ≡ count_runs rule act x.steps (k a) u v f x.runs) (sym world) here in
          let at_answer : (t : Runs rule act n (k b) o v' f') → count_runs rule act n (k b) o v' f' t ≡ count_runs rule act x.steps (k a) u v f x.runs =
          subst (λ (c : A). (t : Runs rule act n (k c) o v' f') → count_runs rule act n (k c) o v' f' t ≡ count_runs rule act x.steps (k a) u v f x.runs) (sym answer) at_world in
          ap (λ (c : ℕ). suc c) (at_answer r)
      on n (Stops s) is r = absurd (cc)

      said : (n : ℕ) (r : Runs rule act n (Say q k) w v' f') → count_runs rule act n (Say q k) w v' f' r ≡ suc (count_runs rule act x.steps (k a) u v f x.runs)
      said zero r = absurd r
      said (suc n) r = on n (act q w) goes r
