use Rattle.std.proofs.Common.{arith}
use Rattle.std.proofs.lemmas.Str.Parse.{digit_at}
use Rattle.widl_scalar.proofs.TenScales.{reached_more}
use Rattle.widl_scalar.proofs.decimal_scale.with_digits.Goals as goal

pub overflow_sub-unit : goal.overflow_sub-unit
overflow_sub-unit c = (digit_at _ _ c.requires.digits c.loop-unit-test.true).0

pub with_digit-number-requires-clause-digit : goal.with_digit-number-requires-clause-digit
with_digit-number-requires-clause-digit c = let range = digit_at _ _ c.requires.digits c.loop-unit-test.true in let high = range.1 in omega (arith, high)

pub loop-unit-preserved : goal.loop-unit-preserved
loop-unit-preserved c = record {
  kept = c.with_digit-number.ensures.kept;
  zeros = omega arith;
  stands = λ n s. reached_more n _ _ _ _ _ _ _ c.loop-unit-test.true c.requires.digits c.from.ensures c.with_digit-number.ensures.stands (c.loop-unit.invariant.stands n s);
}
