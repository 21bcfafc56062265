-- What steps do in a world.
use Rattle.std.specs.Prelude.{◌≡◌, ℕ, zero, suc, refl}
use Rattle.std.proofs.Common.{sym, ap, subst, ◌∙◌}
use Rattle.widl_dialog.specs.Dialog.{Dialog, End, Say, Steps, bind}
use Rattle.widl_dialog.specs.Runs.{Did, Went, Stops, Finish, Ended, Halted, on_did, Runs, Does}
use Rattle.widl_dialog.proofs.Bind.{bind_assoc}

module _ {J Q A R W S : Type 0} (rule : J → Dialog J Q A R) (act : Q → W → Did W A S) where
  one_did : (n m : ℕ) (did : Did W A S) (k : A → Dialog J Q A R) (w v v' : W) (f f' : Finish R S) → ((a : A) (u : W) → Runs rule act n (k a) u v f → Runs rule act m (k a) u v' f' → (v ≡ v') × (f ≡ f')) → on_did did (λ u a. Runs rule act n (k a) u v f) (λ s. (v ≡ w) × (f ≡ Halted s)) → on_did did (λ u a. Runs rule act m (k a) u v' f') (λ s. (v' ≡ w) × (f' ≡ Halted s)) → (v ≡ v') × (f ≡ f')
  one_did n m (Went u a) k w v v' f f' go x y = go a u x y
  one_did n m (Stops s) k w v v' f f' go x y = (x.0 ∙ sym y.0, x.1 ∙ sym y.1)

  one_run : (n m : ℕ) (d : Dialog J Q A R) (w v v' : W) (f f' : Finish R S) → Runs rule act n d w v f → Runs rule act m d w v' f' → (v ≡ v') × (f ≡ f')
  one_run zero m d w v v' f f' x y = absurd x
  one_run (suc n) zero d w v v' f f' x y = absurd y
  one_run (suc n) (suc m) (End r) w v v' f f' x y = (x.0 ∙ sym y.0, x.1 ∙ sym y.1)
  one_run (suc n) (suc m) (Say q k) w v v' f f' x y = one_did n m (act q w) k w v v' f f' (λ a u. one_run n m (k a) u v v' f f') x y
  one_run (suc n) (suc m) (Steps j k) w v v' f f' x y = one_run n m (bind (rule j) k) w v v' f f' x y

  -- the law of one outcome
  pub one_outcome : {d : Dialog J Q A R} {w v v' : W} {f f' : Finish R S} → Does rule act d w v f → Does rule act d w v' f' → (v ≡ v') × (f ≡ f')
  one_outcome {d = d} {w = w} {v = v} {v' = v'} {f = f} {f' = f'} x y = one_run x.steps y.steps d w v v' f f' x.runs y.runs

  -- a run, and another one after it
  join_did : (n : ℕ) (did : Did W A S) (g : A → Dialog J Q A R) (k : R → Dialog J Q A R) (w u v : W) (r : R) (f : Finish R S) → ((a : A) (x : W) → Runs rule act n (g a) x u (Ended r) → (m : ℕ) × Runs rule act m (bind (g a) k) x v f) → on_did did (λ x a. Runs rule act n (g a) x u (Ended r)) (λ s. (u ≡ w) × ◌≡◌ {A = Finish R S} (Ended r) (Halted s)) → (m : ℕ) × on_did did (λ x a. Runs rule act m (bind (g a) k) x v f) (λ s. (v ≡ w) × (f ≡ Halted s))
  join_did n (Went x a) g k w u v r f go runs = go a x runs
  join_did n (Stops s) g k w u v r f go runs = let e : ◌≡◌ {A = Finish R S} (Ended r) (Halted s) = runs.1 in absurd (cc)

  join_runs : (n : ℕ) (d : Dialog J Q A R) (k : R → Dialog J Q A R) (w u v : W) (r : R) (f : Finish R S) → Runs rule act n d w u (Ended r) → Does rule act (k r) u v f → (m : ℕ) × Runs rule act m (bind d k) w v f
  join_runs zero d k w u v r f x y = absurd x
  join_runs (suc n) (End s) k w u v r f x y =
      let is_end : ◌≡◌ {A = Finish R S} (Ended r) (Ended s) = x.1 in
      let same : r ≡ s = cc in
      (y.steps, subst (λ (t : R). Runs rule act y.steps (k t) w v f) same (subst (λ (o : W). Runs rule act y.steps (k r) o v f) x.0 y.runs))
  join_runs (suc n) (Say q g) k w u v r f x y =
      let z = join_did n (act q w) g k w u v r f (λ a o runs. join_runs n (g a) k o u v r f runs y) x in
      (suc z.0, z.1)
  join_runs (suc n) (Steps j g) k w u v r f x y =
      let z = join_runs n (bind (rule j) g) k w u v r f x y in
      (suc z.0, subst (λ (d : Dialog J Q A R). Runs rule act z.0 d w v f) (bind_assoc (rule j) g k) z.1)

  pub does_join : {d : Dialog J Q A R} {w u v : W} {r : R} {f : Finish R S} (k : R → Dialog J Q A R) → Does rule act d w u (Ended r) → Does rule act (k r) u v f → Does rule act (bind d k) w v f
  does_join {d = d} {w = w} {u = u} {v = v} {r = r} {f = f} k x y = let z = join_runs x.steps d k w u v r f x.runs y in record { steps = z.0; runs = z.1 }

  -- a run that halts
  halt_did : (n : ℕ) (did : Did W A S) (g : A → Dialog J Q A R) (k : R → Dialog J Q A R) (w v : W) (t : S) → ((a : A) (x : W) → Runs rule act n (g a) x v (Halted t) → (m : ℕ) × Runs rule act m (bind (g a) k) x v (Halted t)) → on_did did (λ x a. Runs rule act n (g a) x v (Halted t)) (λ s. (v ≡ w) × ◌≡◌ {A = Finish R S} (Halted t) (Halted s)) → (m : ℕ) × on_did did (λ x a. Runs rule act m (bind (g a) k) x v (Halted t)) (λ s. (v ≡ w) × ◌≡◌ {A = Finish R S} (Halted t) (Halted s))
  halt_did n (Went x a) g k w v t go runs = go a x runs
  halt_did n (Stops s) g k w v t go runs = (n, (runs.0, let e : ◌≡◌ {A = Finish R S} (Halted t) (Halted s) = runs.1 in let same : t ≡ s = cc in ap (λ (x : S). let y : Finish R S = Halted x in y) same))

  halt_runs : (n : ℕ) (d : Dialog J Q A R) (k : R → Dialog J Q A R) (w v : W) (t : S) → Runs rule act n d w v (Halted t) → (m : ℕ) × Runs rule act m (bind d k) w v (Halted t)
  halt_runs zero d k w v t x = absurd x
  halt_runs (suc n) (End s) k w v t x = let e : ◌≡◌ {A = Finish R S} (Halted t) (Ended s) = x.1 in absurd (cc)
  halt_runs (suc n) (Say q g) k w v t x = let z = halt_did n (act q w) g k w v t (λ a o. halt_runs n (g a) k o v t) x in (suc z.0, z.1)
  halt_runs (suc n) (Steps j g) k w v t x =
      let z = halt_runs n (bind (rule j) g) k w v t x in
      (suc z.0, subst (λ (d : Dialog J Q A R). Runs rule act z.0 d w v (Halted t)) (bind_assoc (rule j) g k) z.1)

  pub does_halt : {d : Dialog J Q A R} {w v : W} {t : S} (k : R → Dialog J Q A R) → Does rule act d w v (Halted t) → Does rule act (bind d k) w v (Halted t)
  does_halt {d = d} {w = w} {v = v} {t = t} k x = let z = halt_runs x.steps d k w v t x.runs in record { steps = z.0; runs = z.1 }

  -- a task, and what comes after it
  pub does_steps : {j : J} {k : R → Dialog J Q A R} {w v : W} {f : Finish R S} → Does rule act (bind (rule j) k) w v f → Does rule act (Steps j k) w v f
  does_steps x = record { steps = suc x.steps; runs = x.runs }

  pub does_said : (q : Q) (k : A → Dialog J Q A R) (a : A) {w u v : W} {f : Finish R S} → act q w ≡ Went u a → Does rule act (k a) u v f → Does rule act (Say q k) w v f
  does_said q k a {w = w} {u = u} {v = v} {f = f} is x = record {
    steps = suc x.steps;
    runs = subst (λ (did : Did W A S). on_did did (λ o b. Runs rule act x.steps (k b) o v f) (λ s. (v ≡ w) × (f ≡ Halted s))) (sym is) x.runs;
  }

  pub does_stop : (q : Q) (k : A → Dialog J Q A R) (s : S) (w : W) → act q w ≡ Stops s → Does rule act (Say q k) w w (Halted s)
  does_stop q k s w is = record {
    steps = 1;
    runs = subst (λ (did : Did W A S). on_did did (λ o b. Runs rule act 0 (k b) o w (Halted s)) (λ t. (w ≡ w) × ◌≡◌ {A = Finish R S} (Halted s) (Halted t))) (sym is) (refl, refl);
  }

  -- what is left of a run after an action that goes
  pub after_said : (q : Q) (k : A → Dialog J Q A R) (a : A) {w u v : W} {f : Finish R S} → act q w ≡ Went u a → Does rule act (Say q k) w v f → Does rule act (k a) u v f
  after_said q k a {w = w} {u = u} {v = v} {f = f} is x = rest x.steps x.runs
    where
      rest : (n : ℕ) → Runs rule act n (Say q k) w v f → Does rule act (k a) u v f
      rest zero r = absurd r
      rest (suc n) r = record { steps = n; runs = subst (λ (did : Did W A S). on_did did (λ o b. Runs rule act n (k b) o v f) (λ s. (v ≡ w) × (f ≡ Halted s))) is r }

  -- a larger bound on a run
  more_did : (n : ℕ) (did : Did W A S) (k : A → Dialog J Q A R) (w v : W) (f : Finish R S) → ((a : A) (u : W) → Runs rule act n (k a) u v f → Runs rule act (suc n) (k a) u v f) → on_did did (λ u a. Runs rule act n (k a) u v f) (λ s. (v ≡ w) × (f ≡ Halted s)) → on_did did (λ u a. Runs rule act (suc n) (k a) u v f) (λ s. (v ≡ w) × (f ≡ Halted s))
  more_did n (Went u a) k w v f go x = go a u x
  more_did n (Stops s) k w v f go x = x

  more_runs : (n : ℕ) (d : Dialog J Q A R) (w v : W) (f : Finish R S) → Runs rule act n d w v f → Runs rule act (suc n) d w v f
  more_runs zero d w v f x = absurd x
  more_runs (suc n) (End r) w v f x = x
  more_runs (suc n) (Say q k) w v f x = more_did n (act q w) k w v f (λ a u. more_runs n (k a) u v f) x
  more_runs (suc n) (Steps j k) w v f x = more_runs n (bind (rule j) k) w v f x

  -- a run of a whole is one of a part and one of the rest after it, or the part halts
  pub data Parted (n : ℕ) (d : Dialog J Q A R) (k : R → Dialog J Q A R) (w v : W) (f : Finish R S) : Type 0 where
    Through : (u : W) (r : R) → Does rule act d w u (Ended r) → Runs rule act n (k r) u v f → Parted n d k w v f
    Within : (s : S) → f ≡ Halted s → Does rule act d w v (Halted s) → Parted n d k w v f

  part_steps : (n : ℕ) (j : J) (g k : R → Dialog J Q A R) (w v : W) (f : Finish R S) → Parted n (bind (rule j) g) k w v f → Parted (suc n) (Steps j g) k w v f
  part_steps n j g k w v f (Through u r x y) = Through u r (does_steps {j = j} {k = g} x) (more_runs n (k r) u v f y)
  part_steps n j g k w v f (Within s is x) = Within s is (does_steps {j = j} {k = g} x)

  part_said : (n : ℕ) (q : Q) (g : A → Dialog J Q A R) (k : R → Dialog J Q A R) (a : A) (w o v : W) (f : Finish R S) → act q w ≡ Went o a → Parted n (g a) k o v f → Parted (suc n) (Say q g) k w v f
  part_said n q g k a w o v f is (Through u r x y) = Through u r (does_said q g a is x) (more_runs n (k r) u v f y)
  part_said n q g k a w o v f is (Within s fin x) = Within s fin (does_said q g a is x)

  part_did : (n : ℕ) (q : Q) (g : A → Dialog J Q A R) (k : R → Dialog J Q A R) (w v : W) (f : Finish R S) (did : Did W A S) → act q w ≡ did → ((a : A) (o : W) → Runs rule act n (bind (g a) k) o v f → Parted n (g a) k o v f) → on_did did (λ o a. Runs rule act n (bind (g a) k) o v f) (λ s. (v ≡ w) × (f ≡ Halted s)) → Parted (suc n) (Say q g) k w v f
  part_did n q g k w v f (Went o a) is go x = part_said n q g k a w o v f is (go a o x)
  part_did n q g k w v f (Stops s) is go x = Within s x.1 (subst (λ (o : W). Does rule act (Say q g) w o (Halted s)) (sym x.0) (does_stop q g s w is))

  pub parted : (n : ℕ) (d : Dialog J Q A R) (k : R → Dialog J Q A R) (w v : W) (f : Finish R S) → Runs rule act n (bind d k) w v f → Parted n d k w v f
  parted zero d k w v f x = absurd x
  parted (suc n) (End r) k w v f x = Through w r (record { steps = 1; runs = (refl, refl) }) x
  parted (suc n) (Say q g) k w v f x = part_did n q g k w v f (act q w) refl (λ a o. parted n (g a) k o v f) x
  parted (suc n) (Steps j g) k w v f x =
      part_steps n j g k w v f (parted n (bind (rule j) g) k w v f (subst (λ (d : Dialog J Q A R). Runs rule act n d w v f) (sym (bind_assoc (rule j) g k)) x))
