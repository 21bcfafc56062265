-- What is read of the parts of a text.
use Rattle.std.specs.Prelude.{◌≡◌, ℕ, ◌<◌, Bool, false, List, ◌∷◌, length, Some}
use Rattle.std.specs.Str.Parse.{AllDigits, digits_value}
use Rattle.widl_value.specs.declared.number.Number.TheVariants as numbers
use Rattle.widl_scalar.specs.declared.numerals.Read.{Read}
use Rattle.widl_scalar.specs.declared.numerals.Read.TheVariants as reads
use Rattle.widl_scalar.specs.Numerals.{Answers, IsUnsigned, base_of}

-- a `0`, the letter of a base, and the rest
pub record IsPrefixCut (text : List ℕ) (base : ℕ) (rest : List ℕ) : Type 0 where
  pub letter : ℕ
  pub is_letter : base_of letter ≡ Some base
  pub is : text ≡ 48 ∷ letter ∷ rest

-- what is read of what follows it
pub record ReadsRadix (base : ℕ) (digits : List ℕ) (read : Read) : Type 0 where
  pub some : AllDigits base digits → 0 < length digits → Answers false (digits_value base digits) 0 0 read
  pub none : (AllDigits base digits → 0 < length digits → ⊥) → read ≡ reads.Number numbers.NaN

-- what is read of what follows a sign
pub record ReadsUnsigned (negative : Bool) (text : List ℕ) (read : Read) : Type 0 where
  pub some : (digits : List ℕ) (up down : ℕ) → IsUnsigned text digits up down → Answers negative (digits_value 10 digits) up down read
  pub none : ((digits : List ℕ) (up down : ℕ) → IsUnsigned text digits up down → ⊥) → read ≡ reads.Number numbers.NaN
