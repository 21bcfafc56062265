-- The nearest Number, computed.
-- Source: ECMA-262, The Number Type ("the Number value for x"): 53 significant bits, ties to the even significand.
use Rattle.std.specs.Prelude.{ℕ, suc, ◌+◌, ◌*◌, ◌-◌, ◌/◌, ◌%◌, ◌^◌, ◌==◌, ◌&&◌, ◌||◌, Bool, nat_lt, if◌then◌else◌, ℤ, pos, negsuc, neg_ℤ}
use Rattle.std.specs.Int.Count.{count_leading_zeros}
use Rattle.widl_value.specs.declared.number.Number.{Number}
use Rattle.widl_value.specs.declared.number.Number.TheVariants.{Whole}

-- what the last of 53 significant bits of v is worth, for a v of at most 128 bits
unfoldable pub step_of : ℕ → ℕ
step_of v = 2 ^ (128 - 53 - count_leading_zeros 128 v)

-- of the multiples of a step around `whole * step + rest` the one above is nearer, or as near and even
abbrev pub goes_up : ℕ → ℕ → ℕ → Bool
goes_up whole rest step = nat_lt step (2 * rest) || (2 * rest == step && whole % 2 == 1)

-- the multiple of a step that is nearest to v, on a tie the even one
abbrev pub rounded : ℕ → ℕ → ℕ
rounded step v = if goes_up (v / step) (v % step) step then v / step * step + step else v / step * step

-- the number of at most 53 significant bits that is nearest to v, on a tie the even one
unfoldable pub near_of : ℕ → ℕ
near_of v = rounded (step_of v) v

-- the Number nearest to a whole number of magnitude at most 2 to the 64
abbrev pub nearest_of : ℤ → Number
nearest_of (pos v) = Whole (pos (near_of v))
nearest_of (negsuc v) = Whole (neg_ℤ (pos (near_of (suc v))))
