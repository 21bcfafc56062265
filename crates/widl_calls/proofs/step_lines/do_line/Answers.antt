use Rattle.std.proofs.Common.{IfOk, sym, subst}
use Rattle.widl_script_tree.specs.declared.steps.StepLine.{StepLine}
use Rattle.widl_idl.specs.DefinitionTerms.{defs_term}
use Rattle.widl_steps.specs.Operations.{StepsOf, result_type}
use Rattle.widl_steps.specs.StepLines.{line}
use Rattle.widl_calls.specs.Frames.{CallLeads, ended_or_dictionary}
use Rattle.widl_calls.specs.HeldValues.{held}
use Rattle.widl_calls.proofs.step_lines.do_line.Goals as goal

pub returns-in-Return : goal.returns-in-Return
returns-in-Return c =
    subst
    (λ (l : StepLine). IfOk c.return_line.result (λ ended. (steps : StepsOf) → CallLeads (defs_term c.args.tables.now.defs) steps (line (result_type (defs_term c.args.tables.now.defs) c.args.overload.callee c.args.overload.number) (held c.args.read) l) (ended_or_dictionary (result_type (defs_term c.args.tables.now.defs) c.args.overload.callee c.args.overload.number) ended)))
    (sym c.in-Return.is)
    c.return_line.ensures
