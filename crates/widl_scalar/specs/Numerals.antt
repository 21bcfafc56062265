-- The numerals of texts, and what is read of each.
-- Source: ECMA-262, StringNumericLiteral and StringToNumber.
use Rattle.std.specs.Prelude.{◌≡◌, ◌≢◌, ℕ, ◌+◌, ◌^◌, ◌<◌, ◌≤◌, ◌⊎◌, ◌==◌, ◌||◌, Bool, true, false, if◌then◌else◌, List, [], ◌∷◌, ◌++◌, length, codes, Option, Some, None, ℤ, pos, neg_ℤ}
use Rattle.std.specs.Str.Parse.{AllDigits, digits_value}
use Rattle.widl_value.specs.declared.number.Number as the
use Rattle.widl_value.specs.declared.number.Number.TheVariants as numbers
use Rattle.widl_value.specs.Near.{IsNumber, Nearest}
use Rattle.widl_scalar.specs.declared.numerals.Read.{Read}
use Rattle.widl_scalar.specs.declared.numerals.Read.TheVariants as reads
use Rattle.widl_scalar.specs.DecimalScales.{IsScaled}

-- a sign, or none
abbrev pub IsSign : Bool → List ℕ → Type 0
IsSign true sign = sign ≡ 45 ∷ []
IsSign false sign = (sign ≡ []) ⊎ (sign ≡ 43 ∷ [])

-- an exponent: `e` or `E`, a sign and digits, which mean a power of ten to multiply by or to divide by
pub record IsExponent (text : List ℕ) (up over : ℕ) : Type 0 where
  pub negative : Bool
  pub mark : ℕ
  pub is_mark : (mark ≡ 101) ⊎ (mark ≡ 69)
  pub sign : List ℕ
  pub is_sign : IsSign negative sign
  pub digits : List ℕ
  pub are_digits : AllDigits 10 digits
  pub some : 0 < length digits
  pub is : text ≡ mark ∷ (sign ++ digits)
  pub ups : negative ≡ false → (up ≡ digits_value 10 digits) × (over ≡ 0)
  pub overs : negative ≡ true → (up ≡ 0) × (over ≡ digits_value 10 digits)

-- an exponent, or none
abbrev pub IsTail : List ℕ → ℕ → ℕ → Type 0
IsTail text up over = IsExponent text up over ⊎ ((text ≡ []) × (up ≡ 0) × (over ≡ 0))

-- a decimal numeral without a sign: digits, of which some may stand after a point, and an exponent
pub record IsUnsigned (text digits : List ℕ) (up down : ℕ) : Type 0 where
  pub whole : List ℕ
  pub fraction : List ℕ
  pub all : digits ≡ whole ++ fraction
  pub are_whole : AllDigits 10 whole
  pub are_fraction : AllDigits 10 fraction
  pub some : 0 < length digits
  pub point : List ℕ
  pub is_point : (point ≡ 46 ∷ []) ⊎ ((point ≡ []) × (fraction ≡ []))
  pub tail : List ℕ
  pub over : ℕ
  pub is_tail : IsTail tail up over
  pub is : text ≡ whole ++ (point ++ (fraction ++ tail))
  pub under : down ≡ length fraction + over

-- the same with a sign, or none
pub record IsDecimal (text : List ℕ) (negative : Bool) (digits : List ℕ) (up down : ℕ) : Type 0 where
  pub sign : List ℕ
  pub is_sign : IsSign negative sign
  pub unsigned : List ℕ
  pub is_unsigned : IsUnsigned unsigned digits up down
  pub is : text ≡ sign ++ unsigned

pub record IsInfinity (text : List ℕ) (negative : Bool) : Type 0 where
  pub sign : List ℕ
  pub is_sign : IsSign negative sign
  pub is : text ≡ sign ++ codes "Infinity"

-- `x`, `o` and `b` in either case
abbrev pub base_of : ℕ → Option ℕ
base_of letter = if letter == 120 || letter == 88 then Some 16 else if letter == 111 || letter == 79 then Some 8 else if letter == 98 || letter == 66 then Some 2 else None

-- digits of a base after `0` and its letter
pub record IsRadix (text : List ℕ) (base : ℕ) (digits : List ℕ) : Type 0 where
  pub letter : ℕ
  pub is_letter : base_of letter ≡ Some base
  pub are_digits : AllDigits base digits
  pub some : 0 < length digits
  pub is : text ≡ 48 ∷ letter ∷ digits

abbrev pub signed : Bool → ℕ → ℤ
signed true v = neg_ℤ (pos v)
signed false v = pos v

abbrev pub IsWholeAnswer : Bool → ℕ → ℕ → ℕ → the.Number → Type 0
IsWholeAnswer negative n up down number = (v : ℕ) × IsScaled n up down v × (v ≤ 2 ^ 64) × Nearest (signed negative v) number

-- what is read of a finite numeral: the Number nearest to its value where this is whole and of magnitude at most
-- 2 to the 64, and otherwise that it lies outside the profile
abbrev pub Answers : Bool → ℕ → ℕ → ℕ → Read → Type 0
Answers negative n up down (reads.Number number) = IsWholeAnswer negative n up down number
Answers negative n up down reads.OutOfProfile = (v : ℕ) → IsScaled n up down v → 2 ^ 64 < v

-- a number that is read is a Number
abbrev pub IsReadNumber : Read → Type 0
IsReadNumber (reads.Number number) = IsNumber number
IsReadNumber reads.OutOfProfile = Unit {0}

-- what is read of a text without white space around it
pub record Reads (text : List ℕ) (read : Read) : Type 0 where
  pub empty : text ≡ [] → read ≡ reads.Number (numbers.Whole (pos 0))
  pub infinite : (negative : Bool) → IsInfinity text negative → read ≡ reads.Number (if negative then numbers.NegInf else numbers.PosInf)
  pub decimal : (negative : Bool) (digits : List ℕ) (up down : ℕ) → IsDecimal text negative digits up down → Answers negative (digits_value 10 digits) up down read
  pub radix : (base : ℕ) (digits : List ℕ) → IsRadix text base digits → Answers false (digits_value base digits) 0 0 read
  pub other : text ≢ [] → ((negative : Bool) → IsInfinity text negative → ⊥)
      → ((negative : Bool) (digits : List ℕ) (up down : ℕ) → IsDecimal text negative digits up down → ⊥)
      → ((base : ℕ) (digits : List ℕ) → IsRadix text base digits → ⊥) → read ≡ reads.Number numbers.NaN
