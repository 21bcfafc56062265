use Rattle.std.proofs.Common.{◌∙◌, ap, sym}
use Rattle.widl_value.specs.IdlTerms.{idl_term}
use Rattle.widl_steps.specs.StepLines.{argument_value}
use Rattle.widl_calls.proofs.HeldReads.{at_same, at_other}
use Rattle.widl_calls.proofs.step_lines.return_named.Goals as goal

pub returns-then-number-own : goal.returns-then-number-own
returns-then-number-own c t = c.argument_value.ensures t ∙ ap argument_value (sym (at_same c.args.named.number c.args.number (idl_term c.args.named.value) c.if-number-own.true))

pub returns-else-number-own : goal.returns-else-number-own
returns-else-number-own c t = c.fault.ensures t ∙ sym (at_other c.args.named.number c.args.number (idl_term c.args.named.value) c.if-number-own.false)
