use Rattle.std.proofs.Common.{◌∙◌, ap, sym}
use Rattle.widl_dialog.specs.Dialog.{Say}
use Rattle.widl_value.specs.declared.object.ObjRef.{ObjRef}
use Rattle.widl_runs.specs.Actions.{FindBody}
use Rattle.widl_runs.specs.Calls.{call}
use Rattle.widl_runs.specs.Jobs.{Doing}
use Rattle.widl_engine.specs.declared.jobs.Calling.{Calling}
use Rattle.widl_engine.specs.Calling.{found_body}
use Rattle.widl_engine.specs.Tested.{if_function}
use Rattle.widl_engine.proofs.calls.call.Goals as goal

pub returns-in-Some : goal.returns-in-Some
returns-in-Some c p s =
    let k : ObjRef → Doing = λ object. Say (FindBody object) (found_body p object c.into_inner-f.result.this c.args.args) in
    sym (c.callable.ensures k ∙ ap (if_function k) c.in-Some.is)
    ∙ ap (λ (x : Calling). call p x.f x.this c.args.args) c.into_inner-f.ensures
