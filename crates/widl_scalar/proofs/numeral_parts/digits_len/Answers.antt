use Rattle.std.proofs.Common.{arith}
use Rattle.std.proofs.lemmas.Int.Digits.{digits_more}
use Rattle.widl_scalar.proofs.numeral_parts.digits_len.Goals as goal

pub loop-place-preserved : goal.loop-place-preserved
loop-place-preserved c = digits_more 10 _ _ c.loop-place-test.true c.loop-place.invariant (omega (arith, c.digit_of.ensures))
