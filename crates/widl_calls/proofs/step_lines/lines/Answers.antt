use Rattle.std.proofs.Common.{◌∙◌, List, ap, sym}
use Rattle.widl_dialog.specs.Dialog.{bind}
use Rattle.widl_idl.specs.DefinitionTerms.{defs_term}
use Rattle.widl_script_tree.specs.declared.steps.StepLine.{StepLine}
use Rattle.widl_steps.specs.CallTasks.{CallTalk}
use Rattle.widl_steps.specs.FoundSteps.{steps_over}
use Rattle.widl_steps.specs.Operations.{result, result_type}
use Rattle.widl_steps.specs.StepLines.{lines}
use Rattle.widl_calls.specs.HeldValues.{held}
use Rattle.widl_calls.proofs.HeldReads.{no_line}
use Rattle.widl_calls.proofs.step_lines.lines.Goals as goal

pub returns-in_ok-default_result-in-empty : goal.returns-in_ok-default_result-in-empty
returns-in_ok-default_result-in-empty c =
    let list = defs_term c.args.tables.now.defs in
    let t = (result_type list c.args.overload.callee c.args.overload.number) in
    let none = sym c.lines.ensures ∙ no_line c.lines.result.now c.in-empty.len_below in
    c.with_result.ensures list (steps_over c.args.tables.now c.args.script.now)
    ∙ ap (λ (d : CallTalk). let all : CallTalk = bind d (result t) in all) (c.in_ok-default_result-in-empty.ensures ∙ ap (λ (ls : List StepLine). lines list t (held c.args.read) ls) (sym none))
