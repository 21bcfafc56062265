-- The conversions of values that are no objects.
-- Source: ECMA-262, ToBoolean, ToNumber, ToString, ToLength.
use Rattle.std.specs.Prelude.{◌≡◌, ℕ, ◌-◌, ◌^◌, Bool, true, false, if◌then◌else◌, nat_lt, length, codes, pos, negsuc, min, unsigned_abs}
use Rattle.widl_value.specs.declared.number.Number as the
use Rattle.widl_value.specs.declared.number.Number.TheVariants as numbers
use Rattle.widl_value.specs.declared.value.Value.{Value}
use Rattle.widl_value.specs.declared.value.Value.TheVariants.{Undefined, Null, Bool as Boolean, Num, Str, Sym, Obj}
use Rattle.widl_value.specs.Near.{IsNumber}
use Rattle.widl_scalar.specs.declared.numerals.Read.{Read}
use Rattle.widl_scalar.specs.declared.numerals.Read.TheVariants as reads
use Rattle.widl_scalar.specs.declared.primitives.ValueNumber.{ValueNumber}
use Rattle.widl_scalar.specs.declared.primitives.ValueNumber.TheVariants as given
use Rattle.widl_scalar.specs.declared.primitives.ValueText.{ValueText}
use Rattle.widl_scalar.specs.declared.primitives.ValueText.TheVariants as written
use Rattle.widl_scalar.specs.NumberTexts.{number_text_of}
use Rattle.widl_scalar.specs.NumeralWords.{read_of}
use Rattle.widl_scalar.specs.Scalars.{NearestWithin}
use Rattle.widl_scalar.specs.WhiteSpace.{trimmed}

-- ToBoolean
abbrev pub number_truth : the.Number → Bool
number_truth numbers.NaN = false
number_truth numbers.PosInf = true
number_truth numbers.NegInf = true
number_truth (numbers.Whole x) = nat_lt 0 (unsigned_abs x)

abbrev pub truth_of : Value → Bool
truth_of Undefined = false
truth_of Null = false
truth_of (Boolean b) = b
truth_of (Num n) = number_truth n
truth_of (Str text) = nat_lt 0 (length text)
truth_of (Sym id) = true
truth_of (Obj obj) = true

-- ToNumber, but for objects, which need steps of the script
abbrev pub given_by : Read → ValueNumber
given_by (reads.Number n) = given.Number n
given_by reads.OutOfProfile = given.OutOfProfile

abbrev pub number_in : Value → ValueNumber
number_in Undefined = given.Number numbers.NaN
number_in Null = given.Number (numbers.Whole (pos 0))
number_in (Boolean b) = given.Number (numbers.Whole (if b then pos 1 else pos 0))
number_in (Num n) = given.Number n
number_in (Str text) = given_by (read_of (trimmed text))
number_in (Sym id) = given.Symbol
number_in (Obj obj) = given.Object

-- ToString, but for objects
abbrev pub text_in : Value → ValueText
text_in Undefined = written.Text (codes "undefined")
text_in Null = written.Text (codes "null")
text_in (Boolean b) = written.Text (if b then codes "true" else codes "false")
text_in (Num n) = written.Text (number_text_of n)
text_in (Str text) = written.Text text
text_in (Sym id) = written.Symbol
text_in (Obj obj) = written.Object

-- ToLength of a Number: of the numbers from 0 to 2 to the 53, minus 1, the one nearest to it, and 0 for NaN
abbrev pub IsLength : the.Number → ℕ → Type 0
IsLength numbers.NaN n = n ≡ 0
IsLength numbers.PosInf n = n ≡ 2 ^ 53 - 1
IsLength numbers.NegInf n = n ≡ 0
IsLength (numbers.Whole x) n = NearestWithin (pos 0) (pos (2 ^ 53 - 1)) x (pos n)

-- the same, computed
abbrev pub length_of : the.Number → ℕ
length_of numbers.NaN = 0
length_of numbers.PosInf = 2 ^ 53 - 1
length_of numbers.NegInf = 0
length_of (numbers.Whole (pos n)) = min n (2 ^ 53 - 1)
length_of (numbers.Whole (negsuc n)) = 0

-- a value that is a number is a Number, and so is what is given
abbrev pub HasNumber : Value → Type 0
HasNumber (Num n) = IsNumber n
HasNumber Undefined = Unit {0}
HasNumber Null = Unit {0}
HasNumber (Boolean b) = Unit {0}
HasNumber (Str text) = Unit {0}
HasNumber (Sym id) = Unit {0}
HasNumber (Obj obj) = Unit {0}

abbrev pub IsGivenNumber : ValueNumber → Type 0
IsGivenNumber (given.Number n) = IsNumber n
IsGivenNumber given.OutOfProfile = Unit {0}
IsGivenNumber given.Symbol = Unit {0}
IsGivenNumber given.Object = Unit {0}
