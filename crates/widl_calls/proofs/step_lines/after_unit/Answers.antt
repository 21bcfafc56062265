use Rattle.std.proofs.Common.{subst, sym}
use Rattle.widl_dialog.specs.Dialog.{bind}
use Rattle.widl_dialog.proofs.Positions.{at_bind}
use Rattle.widl_idl.specs.DefinitionTerms.{defs_term}
use Rattle.widl_steps.specs.AskTerms.{Fits}
use Rattle.widl_steps.specs.BuiltCalls.{calls_built_today}
use Rattle.widl_steps.specs.CallRules.{call_rule}
use Rattle.widl_steps.specs.CallTasks.{CallTalk}
use Rattle.widl_steps.specs.FoundSteps.{steps_over}
use Rattle.widl_steps.specs.Operations.{result, result_type}
use Rattle.widl_calls.specs.Frames.{CallLeads, first_line}
use Rattle.widl_calls.specs.HeldValues.{held}
use Rattle.widl_calls.proofs.step_lines.after_unit.Goals as goal

pub returns : goal.returns
returns c =
    let list = defs_term c.args.tables.now.defs in
    let steps = steps_over c.args.tables.now c.args.script.now in
    let t = (result_type list c.args.overload.callee c.args.overload.number) in
    subst
    (λ (d : CallTalk). CallLeads list steps (bind (first_line list t (held c.args.read) (steps c.args.overload.callee c.args.overload.number)) (result t)) d)
    (sym (c.with_result.ensures list steps))
    (at_bind (call_rule calls_built_today list steps) Fits (result t) c.in_ok-ended.ensures)
