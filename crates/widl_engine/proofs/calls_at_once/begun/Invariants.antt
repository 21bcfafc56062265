use Rattle.std.specs.Prelude.{◌≡◌}
use Rattle.widl_engine.specs.declared.jobs.Job.TheVariants as job
use Rattle.widl_engine.specs.declared.jobs.RowUse.{RowUse}
use Rattle.widl_engine.specs.declared.machine.Machine.{Machine}
use Rattle.widl_engine.specs.declared.moves.Move.TheVariants as move
use Rattle.widl_engine.specs.Machine.{Stays, moves_on}
use Rattle.widl_engine.specs.ReadOver.{IsReadOver}
use Rattle.widl_runs.specs.Jobs.{Program}
use Rattle.widl_engine.proofs.calls_at_once.begun.Given as goal

abbrev pub invariant-row : goal.invariant-row
invariant-row l = (p : Program) → IsReadOver p.list l.script → (what : RowUse) → (m : Machine) → m.place ≡ l.place → Stays p l.script l.store (moves_on p l.script (move.Goes (job.Row what l.fn.made l.fn.row)) m) m l.store (moves_on p l.script (move.Goes (job.Row what l.made l.rest)) m) m

abbrev pub decreases-row : goal.decreases-row
decreases-row l = l.rest.count
