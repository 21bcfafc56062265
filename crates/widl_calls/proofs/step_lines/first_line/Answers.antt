use Rattle.std.proofs.Common.{◌∙◌, IfOk, List, ap, subst, sym}
use Rattle.widl_idl.specs.DefinitionTerms.{defs_term}
use Rattle.widl_script_tree.specs.declared.steps.StepLine.{StepLine}
use Rattle.widl_steps.specs.CallTasks.{CallTalk}
use Rattle.widl_steps.specs.FoundSteps.{steps_over}
use Rattle.widl_steps.specs.Operations.{result_type}
use Rattle.widl_steps.specs.StepLines.{line}
use Rattle.widl_calls.specs.Frames.{CallLeads, ended_or_dictionary, first_line}
use Rattle.widl_calls.specs.HeldValues.{held}
use Rattle.widl_calls.proofs.HeldReads.{by_first_line, of_these}
use Rattle.widl_calls.proofs.step_lines.first_line.Goals as goal

pub returns-in-len1-up : goal.returns-in-len1-up
returns-in-len1-up c =
    let list = defs_term c.args.tables.now.defs in
    let t = (result_type list c.args.overload.callee c.args.overload.number) in
    let first = ap (λ (ls : List StepLine). first_line list t (held c.args.read) ls) (sym c.lines.ensures) ∙ by_first_line list t (held c.args.read) c.lines.result.now c.line-item.result c.in-len1-up.len_at_least c.line-item.is in
    subst
    (λ (d : CallTalk). IfOk c.do_line.result (λ ended. CallLeads list (steps_over c.args.tables.now c.args.script.now) d (ended_or_dictionary t ended)))
    (sym first)
    (of_these list (steps_over c.args.tables.now c.args.script.now) (line t (held c.args.read) c.line-item.result) t c.do_line.result c.do_line.ensures)
