-- The length that is computed is the nearest one.
use Rattle.std.proofs.Common.{◌≡◌, ℕ, ◌-◌, ◌^◌, ℤ, pos, negsuc, sym, subst, arith}
use Rattle.std.proofs.lemmas.Int.{ints}
use Rattle.widl_value.specs.declared.number.Number.{Number}
use Rattle.widl_value.specs.declared.number.Number.TheVariants.{NaN, PosInf, NegInf, Whole}
use Rattle.widl_scalar.specs.Primitives.{IsLength, length_of}
use Rattle.widl_scalar.specs.Scalars.{NearestWithin}

whole_length : (x : ℤ) → NearestWithin (pos 0) (pos (2 ^ 53 - 1)) x (pos (length_of (Whole x)))
whole_length (pos n) = record { not_below = omega (arith, ints); not_above = omega (arith, ints); least_distance = λ other low high. omega (arith, ints, low, high) }
whole_length (negsuc n) = record { not_below = omega (arith, ints); not_above = omega (arith, ints); least_distance = λ other low high. omega (arith, ints, low, high) }

pub is_length : (x : Number) (n : ℕ) → n ≡ length_of x → IsLength x n
is_length NaN n is = is
is_length PosInf n is = is
is_length NegInf n is = is
is_length (Whole x) n is = subst (λ k. NearestWithin (pos 0) (pos (2 ^ 53 - 1)) x (pos k)) (sym is) (whole_length x)
