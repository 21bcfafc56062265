use Rattle.std.proofs.Common.{arith, ap, ◌*◌, ◌∙◌}
use Rattle.widl_text.specs.IntegerTokens.{saturated}
use Rattle.widl_text.proofs.Saturated.{saturated_more}
use Rattle.widl_text.proofs.integer_token.digits_value.Goals as goal

pub loop-digit-preserved : goal.loop-digit-preserved
loop-digit-preserved c =
    saturated_more c.args.radix c.loop-digit.digit-index c.from-in-loop-digit.result c.saturating_mul.result c.saturating_add-value.result c.args.digits.now c.requires (omega arith)
    (c.saturating_mul.ensures ∙ ap (λ r. saturated (c.loop-digit.value * r)) c.from.ensures ∙ ap (λ n. saturated (n * c.args.radix)) c.loop-digit.invariant)
    (c.from-in-loop-digit.ensures ∙ c.digit_value.ensures)
    c.saturating_add-value.ensures
