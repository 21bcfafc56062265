use Rattle.std.proofs.Common.{ap, false}
use Rattle.widl_steps.specs.CallTasks.{Function}
use Rattle.widl_runs.specs.Jobs.{Talk}
use Rattle.widl_runs.specs.Rules.{rule}
use Rattle.widl_engine.specs.declared.jobs.BuiltinCall.{BuiltinCall}
use Rattle.widl_engine.specs.Frames.{program_of}
use Rattle.widl_engine.proofs.Talking.{leads_same}
use Rattle.widl_engine.proofs.answering.begins.Goals as goal

pub returns : goal.returns
returns c =
    leads_same c.args.tables.now c.args.script.now _ _ c.starts.result
    (ap (λ (x : BuiltinCall). rule (program_of c.args.tables.now c.args.script.now) (Talk (Function x.f x.what x.this x.args false))) c.into_inner.ensures)
    c.starts.ensures
