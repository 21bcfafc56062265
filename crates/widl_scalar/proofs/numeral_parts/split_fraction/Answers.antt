use Rattle.std.proofs.Common.{[], ◌∷◌, arith, inl, refl}
use Rattle.widl_scalar.proofs.NumeralCuts.{point_first}
use Rattle.widl_scalar.proofs.numeral_parts.split_fraction.Goals as goal

pub returns-in-46 : goal.returns-in-46
returns-in-46 c = record {
  point = 46 ∷ [];
  is_point = inl refl;
  is = point_first c.args.text.now c.split_digits.result.0.now c.split_digits.result.1.now c.in-46.len_at_least (omega arith) c.split_digits.ensures.is;
  digits = c.split_digits.ensures.digits;
  ends = c.split_digits.ensures.ends;
}
