use Rattle.std.proofs.Common.{◌≡◌, ◌∙◌, Some, ap, arith, slice_get, subst, sym}
use Rattle.std.proofs.lemmas.Option.{slice_get_past}
use Rattle.widl_value.specs.IdlTerms.{idl_term, idl_terms}
use Rattle.widl_calls.specs.declared.step_lines.NamedValue.{NamedValue}
use Rattle.widl_calls.specs.HeldValues.{at_place}
use Rattle.widl_calls.proofs.HeldReads.{at_own}
use Rattle.widl_calls.proofs.step_lines.named_value.Goals as goal

pub returns-in_ok-new : goal.returns-in_ok-new
returns-in_ok-new c =
    subst
    (λ (named : NamedValue). slice_get (at_place named.number (idl_term named.value)) c.args.number ≡ slice_get (idl_terms c.args.values.now) c.args.number)
    (sym c.in_ok-new.ensures.ok)
    (at_own c.args.number (idl_term c.in_ok-value.value) ∙ ap Some c.in_ok-value.ensures ∙ sym c.at.ensures)

pub returns-else-number-len : goal.returns-else-number-len
returns-else-number-len c = sym (slice_get_past (idl_terms c.args.values.now) c.args.number (omega (arith, c.if-number-len.false, c.len.ensures)))
