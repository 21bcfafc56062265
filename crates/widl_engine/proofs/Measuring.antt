-- For proofs alone. What a machine does up to the next charge is counted by the run that it has.
use Rattle.std.proofs.Common.{◌≡◌, ℕ, ◌<◌, ◌+◌, ◌*◌, [], length, subst, arith}
use Rattle.widl_dialog.specs.Count.{count}
use Rattle.widl_dialog.specs.Runs.{Outcome}
use Rattle.widl_script_tree.specs.Tables.{Tables}
use Rattle.widl_store.specs.Objects.{StoreState}
use Rattle.widl_runs.specs.Actions.{act}
use Rattle.widl_runs.specs.Jobs.{Program}
use Rattle.widl_runs.specs.Rules.{rule}
use Rattle.widl_runs.specs.Traces.{Run}
use Rattle.widl_runs.proofs.Outcomes.{some_outcome}
use Rattle.widl_engine.specs.declared.machine.Machine.{Machine}
use Rattle.widl_engine.specs.declared.moves.Move.{Move}
use Rattle.widl_engine.specs.Machine.{world, moves_on, Moves}

module _ (p : Program) (s : Tables) where
  outcome : (t : StoreState) (m : Machine) (current : Move) (b : ℕ) → Outcome (rule p) (act p.list) (moves_on p s current m) (world s t m b [])
  outcome t m current b = some_outcome p (moves_on p s current m) (world s t m b [])

  -- twice the actions and jobs that the run from here goes through, and the frames
  pub measure : StoreState → Machine → Move → ℕ
  measure t m current = 2 * count (rule p) (act p.list) (outcome t m current m.budget).does + length m.frames.items

  pub measure_less : (t u : StoreState) (m n : Machine) (current next : Move) → Moves p s t (moves_on p s current m) m u (moves_on p s next n) n → measure u n next < measure t m current
  unfolding measure
  measure_less t u m n current next x =
      let here = outcome t m current m.budget in
      at m.budget x.place.budget here.does
    where
      at : (b : ℕ) → n.budget ≡ b → (y : Run p (moves_on p s current m) (world s t m b []) (outcome t m current m.budget).world (outcome t m current m.budget).finish) → 2 * count (rule p) (act p.list) (outcome u n next n.budget).does + length n.frames.items < 2 * count (rule p) (act p.list) y + length m.frames.items
      at b same = subst (λ (c : ℕ). (y : Run p (moves_on p s current m) (world s t m c []) (outcome t m current m.budget).world (outcome t m current m.budget).finish) → 2 * count (rule p) (act p.list) (outcome u n next n.budget).does + length n.frames.items < 2 * count (rule p) (act p.list) y + length m.frames.items) same
          (λ y.
          let there = outcome u n next n.budget in
          let e = (x.place.follows n.budget []).counts _ _ _ _ there.does y in
          let less = x.less in
          omega (arith, e, less))
