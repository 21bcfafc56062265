-- A level rises over a run by no more than the credit at its start.
use Rattle.std.specs.Prelude.{◌≡◌, ℕ, zero, suc, ◌+◌, ◌-◌, ◌≤◌}
use Rattle.std.proofs.Common.{ap, subst, arith}
use Rattle.widl_dialog.specs.Dialog.{Dialog, End, Say, Steps, bind}
use Rattle.widl_dialog.specs.Runs.{Did, Went, Stops, Finish, Halted, on_did, Runs, Does}
use Rattle.widl_dialog.specs.Credit.{MovesLevel, Owes, Balanced}
use Rattle.widl_dialog.specs.Laws.{NoneRises}

module _ {J Q A R W S : Type 0} (rule : J → Dialog J Q A R) (act : Q → W → Did W A S) (level : W → ℕ) (gives takes : Q → ℕ) where
  pub more_credit : (d : Dialog J Q A R) (n m : ℕ) → n ≤ m → Owes gives takes n d → Owes gives takes m d
  more_credit (End r) n m h x = tt
  more_credit (Say q k) n m h x = (omega (arith, h, x.0), λ a. more_credit (k a) (n - takes q + gives q) (m - takes q + gives q) (omega (arith, h)) (x.1 a))
  more_credit (Steps j k) n m h x = λ r. more_credit (k r) n m h (x r)

  pub owes_bind : (d : Dialog J Q A R) (k : R → Dialog J Q A R) (c n : ℕ) → Owes gives takes c d → ((r : R) → Owes gives takes n (k r)) → Owes gives takes (c + n) (bind d k)
  owes_bind (End r) k c n x y = more_credit (k r) n (c + n) (omega arith) (y r)
  owes_bind (Say q g) k c n x y = (
    omega (arith, x.0),
    λ a.
        let e : c - takes q + gives q + n ≡ c + n - takes q + gives q = (let h = x.0 in omega (arith, h)) in
        subst (λ (m : ℕ). Owes gives takes m (bind (g a) k)) e (owes_bind (g a) k (c - takes q + gives q) n (x.1 a) y),
  )
  owes_bind (Steps j g) k c n x y = λ r. owes_bind (g r) k c n (x r) y

  module _ (balanced : Balanced rule act level gives takes) where
    level_did : (m n : ℕ) (q : Q) (did : Did W A S) (k : A → Dialog J Q A R) (w v : W) (f : Finish R S) → takes q ≤ n → MovesLevel level (gives q) (takes q) w did → ((a : A) (u : W) → Runs rule act m (k a) u v f → level v ≤ level u + (n - takes q + gives q)) → on_did did (λ u a. Runs rule act m (k a) u v f) (λ s. (v ≡ w) × (f ≡ Halted s)) → level v ≤ level w + n
    level_did m n q (Went u a) k w v f h moved go x = let rest = go a u x in omega (arith, h, moved, rest)
    level_did m n q (Stops s) k w v f h moved go x = let e = ap level x.0 in omega (arith, e)

    level_runs : (m n : ℕ) (d : Dialog J Q A R) (w v : W) (f : Finish R S) → Owes gives takes n d → Runs rule act m d w v f → level v ≤ level w + n
    level_runs zero n d w v f o x = absurd x
    level_runs (suc m) n (End r) w v f o x = let e = ap level x.0 in omega (arith, e)
    level_runs (suc m) n (Say q k) w v f o x = level_did m n q (act q w) k w v f o.0 (balanced.moves q w) (λ a u. level_runs m (n - takes q + gives q) (k a) u v f (o.1 a)) x
    level_runs (suc m) n (Steps j k) w v f o x =
        let e : 0 + n ≡ n = omega arith in
        level_runs m n (bind (rule j) k) w v f (subst (λ (c : ℕ). Owes gives takes c (bind (rule j) k)) e (owes_bind (rule j) k 0 n (balanced.owes j) o)) x

    pub level_kept : {d : Dialog J Q A R} {w v : W} {f : Finish R S} (n : ℕ) → Owes gives takes n d → Does rule act d w v f → level v ≤ level w + n
    level_kept {d = d} {w = w} {v = v} {f = f} n o x = level_runs x.steps n d w v f o x.runs

    -- a job adds no more to the level than nothing
    pub none_rises : NoneRises rule act level
    none_rises j w v f x = let h = level_kept 0 (balanced.owes j) x in omega (arith, h)
