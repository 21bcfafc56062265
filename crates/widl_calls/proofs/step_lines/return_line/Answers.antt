use Rattle.std.proofs.Common.{IfOk, sym, subst}
use Rattle.widl_script_tree.specs.declared.steps.Source.{Source}
use Rattle.widl_idl.specs.DefinitionTerms.{defs_term}
use Rattle.widl_steps.specs.Operations.{StepsOf, result_type}
use Rattle.widl_steps.specs.StepLines.{return_line}
use Rattle.widl_calls.specs.Frames.{CallLeads, ended_or_dictionary}
use Rattle.widl_calls.specs.HeldValues.{held}
use Rattle.widl_calls.proofs.step_lines.return_line.Goals as goal

pub returns-in-Literal : goal.returns-in-Literal
returns-in-Literal c =
    subst
    (λ (s : Source). IfOk c.return_literal.result (λ ended. (steps : StepsOf) → CallLeads (defs_term c.args.tables.now.defs) steps (return_line (result_type (defs_term c.args.tables.now.defs) c.args.overload.callee c.args.overload.number) (held c.args.read) s) (ended_or_dictionary (result_type (defs_term c.args.tables.now.defs) c.args.overload.callee c.args.overload.number) ended)))
    (sym c.in-Literal.is)
    c.return_literal.ensures
