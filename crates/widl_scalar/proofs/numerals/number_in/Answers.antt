use Rattle.std.proofs.Common.{◌+◌, ◌*◌, ◌^◌, ◌∙◌, ap, arith, min}
use Rattle.std.proofs.lemmas.Int.Digits.{digits_more}
use Rattle.widl_scalar.proofs.NumeralReads.{digit_below, more_value}
use Rattle.widl_scalar.proofs.numerals.number_in.Goals as goal

pub returns-then-digit-base-clause-none : goal.returns-then-digit-base-clause-none
returns-then-digit-base-clause-none c are = let below = digit_below _ _ _ are c.loop-unit-test.true in omega (arith, below)

pub loop-unit-preserved : goal.loop-unit-preserved
loop-unit-preserved c = record {
  digits = digits_more _ _ _ c.loop-unit-test.true c.loop-unit.invariant.digits (omega arith);
  value = more_value _ _ _ _ _ _ c.loop-unit-test.true c.digit_of-digit.ensures (omega arith) c.loop-unit.invariant.value (c.min-number.ensures ∙ ap (λ b. min (c.loop-unit.number * b + c.from-in-loop-unit.result) (2 ^ 64 + 1)) c.from.ensures ∙ ap (λ d. min (c.loop-unit.number * c.args.base + d) (2 ^ 64 + 1)) c.from-in-loop-unit.ensures);
}
