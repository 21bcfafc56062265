-- The text of a Number.
-- Source: ECMA-262, Number::toString.
use Rattle.std.specs.Prelude.{◌≡◌, ℕ, zero, suc, ◌^◌, ◌==◌, ◌&&◌, Bool, nat_le, if◌then◌else◌, ℤ, pos, negsuc, neg_ℤ, unsigned_abs, List, ◌∷◌, codes, decimal}
use Rattle.std.specs.Fmt.{signed_decimal}
use Rattle.widl_value.specs.declared.number.Number.{Number}
use Rattle.widl_value.specs.declared.number.Number.TheVariants.{NaN, PosInf, NegInf, Whole}
use Rattle.widl_value.specs.Rounding.{near_of}
use Rattle.widl_scalar.specs.ShortestDigits.{Shortest, shortest_of}

-- the shortest digits of a whole number above 0, filled with zeros
pub record IsSizeText (x : ℕ) (text : List ℕ) : Type 0 where
  pub filled : ℕ
  pub shortest : Shortest x filled
  pub is : text ≡ decimal filled

-- a minus sign and the text of the size
pub record IsMinusText (x : ℕ) (text : List ℕ) : Type 0 where
  pub digits : List ℕ
  pub are_digits : IsSizeText x digits
  pub is : text ≡ 45 ∷ digits

abbrev pub IsWholeText : ℤ → List ℕ → Type 0
IsWholeText (pos zero) text = text ≡ codes "0"
IsWholeText (pos (suc n)) text = IsSizeText (suc n) text
IsWholeText (negsuc n) text = IsMinusText (suc n) text

abbrev pub IsNumberText : Number → List ℕ → Type 0
IsNumberText (Whole x) text = IsWholeText x text
IsNumberText NaN text = text ≡ codes "NaN"
IsNumberText PosInf text = text ≡ codes "Infinity"
IsNumberText NegInf text = text ≡ codes "-Infinity"

-- the same, computed: whether a whole number is a Number
abbrev pub is_whole_number : ℤ → Bool
is_whole_number x = nat_le (unsigned_abs x) (2 ^ 64) && near_of (unsigned_abs x) == unsigned_abs x

abbrev pub shortest_signed : ℤ → ℤ
shortest_signed (pos zero) = pos zero
shortest_signed (pos (suc n)) = pos (shortest_of (suc n))
shortest_signed (negsuc n) = neg_ℤ (pos (shortest_of (suc n)))

-- the whole number whose digits are written: the shortest of a Number, and itself where it is none
abbrev pub written_of : ℤ → ℤ
written_of x = if is_whole_number x then shortest_signed x else x

abbrev pub number_text_of : Number → List ℕ
number_text_of (Whole x) = signed_decimal (written_of x)
number_text_of NaN = codes "NaN"
number_text_of PosInf = codes "Infinity"
number_text_of NegInf = codes "-Infinity"
