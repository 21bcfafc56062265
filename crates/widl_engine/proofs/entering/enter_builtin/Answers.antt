use Rattle.std.proofs.Common.{ap, false}
use Rattle.widl_dialog.specs.Dialog.{Steps}
use Rattle.widl_steps.specs.CallTasks.{Function}
use Rattle.widl_runs.specs.Jobs.{Doing, Talk}
use Rattle.widl_engine.specs.declared.jobs.BuiltinCall.{BuiltinCall}
use Rattle.widl_engine.specs.Calling.{talked}
use Rattle.widl_engine.proofs.ContextLaws.{builtin_performed}
use Rattle.widl_engine.proofs.entering.enter_builtin.Goals as goal

pub returns : goal.returns
returns c p s =
    builtin_performed p s c.args.store.now c.args.place.now c.enter_plain.new.place c.args.f c.args.function c.args.this c.in_ok-copy.field-0 c.args.args _ c.in_ok-copy.ensures (c.in_ok-enter_plain.ensures s)
    (ap (λ (x : BuiltinCall). let d : Doing = Steps (Talk (Function x.f x.what x.this x.args false)) talked in d) c.in_ok-new.ensures.ok)
