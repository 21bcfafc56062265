-- What each action keeps, a run keeps.
use Rattle.std.specs.Prelude.{◌≡◌, ℕ, zero, suc, List, [], ◌++◌}
use Rattle.std.proofs.Common.{sym, ap, subst, ◌∙◌, append-nil, append_assoc}
use Rattle.widl_dialog.specs.Dialog.{Dialog, End, Say, Steps, bind}
use Rattle.widl_dialog.specs.Runs.{Did, Went, Stops, Finish, Halted, on_did, Runs, Does}
use Rattle.widl_dialog.specs.Kept.{Holds, Keeps, Grown}
use Rattle.widl_dialog.specs.Laws.{RunsKeep}

module _ {J Q A R W S : Type 0} (rule : J → Dialog J Q A R) (act : Q → W → Did W A S) (Kept : W → W → Type 0) (keeps : Keeps act Kept) where
  stays : (w v : W) → v ≡ w → Kept w v
  stays w v e = subst (λ (u : W). Kept w u) (sym e) (keeps.same w)

  keep_did : (n : ℕ) (did : Did W A S) (k : A → Dialog J Q A R) (w v : W) (f : Finish R S) → Holds Kept w did → ((a : A) (u : W) → Runs rule act n (k a) u v f → Kept u v) → on_did did (λ u a. Runs rule act n (k a) u v f) (λ s. (v ≡ w) × (f ≡ Halted s)) → Kept w v
  keep_did n (Went u a) k w v f holds go x = keeps.goes_on w u v holds (go a u x)
  keep_did n (Stops s) k w v f holds go x = stays w v x.0

  keep_runs : (n : ℕ) (d : Dialog J Q A R) (w v : W) (f : Finish R S) → Runs rule act n d w v f → Kept w v
  keep_runs zero d w v f x = absurd x
  keep_runs (suc n) (End r) w v f x = stays w v x.0
  keep_runs (suc n) (Say q k) w v f x = keep_did n (act q w) k w v f (keeps.holds q w) (λ a u. keep_runs n (k a) u v f) x
  keep_runs (suc n) (Steps j k) w v f x = keep_runs n (bind (rule j) k) w v f x

  -- from a run's first world to its last
  pub runs_keep : RunsKeep rule act Kept
  runs_keep d w v f x = keep_runs x.steps d w v f x.runs

-- a list that each action leaves or adds to
pub keeps_list : {Q A W S E : Type 0} (act : Q → W → Did W A S) (lines : W → List E) → ((q : Q) (w : W) → Holds (Grown lines) w (act q w)) → Keeps act (Grown lines)
keeps_list act lines adds = record {
  same = λ w. ([], sym (append-nil (lines w)));
  goes_on = λ u v w x y. (x.0 ++ y.0, y.1 ∙ ap (λ l. l ++ y.0) x.1 ∙ append_assoc (lines u) x.0 y.0);
  holds = adds;
}

pub grows : {J Q A R W S E : Type 0} (rule : J → Dialog J Q A R) (act : Q → W → Did W A S) (lines : W → List E) → ((q : Q) (w : W) → Holds (Grown lines) w (act q w)) → {d : Dialog J Q A R} {w v : W} {f : Finish R S} → Does rule act d w v f → Grown lines w v
grows rule act lines adds {d = d} {w = w} {v = v} {f = f} x = runs_keep rule act (Grown lines) (keeps_list act lines adds) d w v f x
