-- Places of a run that follow one another.
use Rattle.std.specs.Prelude.{◌≡◌, ℕ, zero, suc, ◌+◌, [], refl}
use Rattle.std.proofs.Common.{sym, subst, arith}
use Rattle.widl_dialog.specs.Dialog.{Dialog, End, Say, Steps, bind}
use Rattle.widl_dialog.specs.Position.{After, At}
use Rattle.widl_dialog.specs.Runs.{Did, Went, Finish, Does}
use Rattle.widl_dialog.specs.Follows.{Follows}
use Rattle.widl_dialog.proofs.Running.{does_said, does_steps}
use Rattle.widl_dialog.proofs.Counting.{same_count, count_steps, count_said}

module _ {J Q A R W S : Type 0} (rule : J → Dialog J Q A R) (act : Q → W → Did W A S) where
  stays : (d : Dialog J Q A R) (w : W) → Follows rule act d w d w 0
  stays d w = record { leads = λ v f x. x; counts = λ v v' f f' x y. let e = same_count rule act y x in omega (arith, e) }

  pub follows_same : {d e : Dialog J Q A R} {w u : W} → d ≡ e → w ≡ u → Follows rule act d w e u 0
  follows_same {d = d} {e = e} {w = w} {u = u} tree world = subst (λ (x : Dialog J Q A R). Follows rule act d w x u 0) tree (subst (λ (o : W). Follows rule act d w d o 0) world (stays d w))

  pub follows_said : (q : Q) (k : A → Dialog J Q A R) (a : A) {w u : W} → act q w ≡ Went u a → Follows rule act (Say q k) w (k a) u 1
  follows_said q k a {w = w} {u = u} is = record {
    leads = λ v f x. does_said rule act q k a is x;
    counts = λ v v' f f' x y. let e = count_said rule act q k u a is x y in omega (arith, e);
  }

  pub follows_steps : (j : J) (k : R → Dialog J Q A R) (w : W) → Follows rule act (Steps j k) w (bind (rule j) k) w 1
  follows_steps j k w = record {
    leads = λ v f x. does_steps rule act {j = j} {k = k} x;
    counts = λ v v' f f' x y. let e = count_steps rule act j k x y in omega (arith, e);
  }

  pub follows_then : {d e g : Dialog J Q A R} {w u o : W} {c c' : ℕ} → Follows rule act d w e u c → Follows rule act e u g o c' → Follows rule act d w g o (c + c')
  follows_then {e = e} {u = u} {c = c} {c' = c'} x y = record {
    leads = λ v f r. x.leads v f (y.leads v f r);
    counts = λ v v' f f' r t. let m : Does rule act e u v f = y.leads v f r in let a = y.counts v v f f r m in let b = x.counts v v' f f' m t in omega (arith, a, b);
  }

  module _ (Fits : Q → A → Type 0) where
    follows_after : (m : ℕ) (d e : Dialog J Q A R) (w : W) → After rule Fits m d [] e → Follows rule act d w e w m
    follows_after zero d e w x = follows_same x refl
    follows_after (suc m) (End r) e w x = absurd x
    follows_after (suc m) (Say q k) e w x = absurd x
    follows_after (suc m) (Steps j k) e w x =
        let one : 1 + m ≡ suc m = omega arith in
        subst (λ (c : ℕ). Follows rule act (Steps j k) w e w c) one (follows_then (follows_steps j k w) (follows_after m (bind (rule j) k) e w x))

    -- where tasks alone lead, as inside a suspended conversion
    pub follows_at : {d e : Dialog J Q A R} (w : W) (x : At rule Fits d [] e) → Follows rule act d w e w x.steps
    follows_at {d = d} {e = e} w x = follows_after x.steps d e w x.after

module _ {J Q A R W S : Type 0} (rule : J → Dialog J Q A R) (Fits : Q → A → Type 0) (act : Q → W → Did W A S) where
  run_place : (m : ℕ) (d e : Dialog J Q A R) (w v : W) (f : Finish R S) → After rule Fits m d [] e → Does rule act e w v f → Does rule act d w v f
  run_place zero d e w v f x run = subst (λ (t : Dialog J Q A R). Does rule act t w v f) (sym x) run
  run_place (suc m) (End r) e w v f x run = absurd x
  run_place (suc m) (Say q g) e w v f x run = absurd x
  run_place (suc m) (Steps j g) e w v f x run = does_steps rule act {j = j} {k = g} (run_place m (bind (rule j) g) e w v f x run)

  -- a run from where tasks lead is a run
  pub does_through : {d e : Dialog J Q A R} {w v : W} {f : Finish R S} → At rule Fits d [] e → Does rule act e w v f → Does rule act d w v f
  does_through {d = d} {e = e} {w = w} {v = v} {f = f} x run = run_place x.steps d e w v f x.after run
