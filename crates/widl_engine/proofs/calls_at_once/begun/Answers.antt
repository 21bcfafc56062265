use Rattle.std.proofs.Common.{arith, subst, sym}
use Rattle.widl_engine.specs.AtOnce.{HasValue}
use Rattle.widl_engine.specs.declared.contexts.Place.{Place}
use Rattle.widl_engine.specs.declared.jobs.Job.TheVariants as job
use Rattle.widl_engine.specs.declared.moves.Move.TheVariants as move
use Rattle.widl_engine.specs.Machine.{moves_on}
use Rattle.widl_engine.proofs.Leading.{stays_here, stays_moved, stays_then}
use Rattle.widl_engine.proofs.ValuesAtOnce.{row_gone_on, value_there}
use Rattle.widl_engine.proofs.calls_at_once.begun.Goals as goal

pub row-init : goal.row-init
row-init c p read what m here = stays_here p c.args.script.now c.args.store.now (moves_on p c.args.script.now (move.Goes (job.Row what c.args.made c.args.row)) m) m

pub row-preserved : goal.row-preserved
row-preserved c p read what m here =
    stays_moved (stays_then (c.row.invariant p read what m here)
    (row_gone_on p c.args.script.now c.args.store.now m what c.row.made _ c.row.rest c.rest-rest.result c.in-Some.value (c.rows_open.ensures.first c.row.rest (omega (arith, c.row-test.true)))
    (subst (λ (x : Place). HasValue p c.args.script.now c.args.store.now x c.row.rest.first c.in-Some.value) (sym here)
    (value_there c.args.script.now c.args.store.now c.args.place.now c.row.rest.first c.in_ok-value.field-0 c.in-Some.value c.in-Some.is c.in_ok-value.ensures p read))
    c.in_ok-push-in-Some.ensures.ok c.rest-rest.ensures))
