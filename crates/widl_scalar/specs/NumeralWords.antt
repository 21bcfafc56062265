-- What is read of a text, computed.
-- Source: ECMA-262, StringNumericLiteral and StringToNumber.
use Rattle.std.specs.Prelude.{ℕ, ◌+◌, ◌*◌, ◌/◌, ◌^◌, ◌==◌, ◌&&◌, ◌||◌, Bool, true, false, nat_lt, nat_le, if◌then◌else◌, List, [], ◌∷◌, ◌++◌, length, drop, slice_index, codes, Option, Some, None, option_map, pos}
use Rattle.std.specs.Char.{digit_value}
use Rattle.std.specs.List.{list_all}
use Rattle.std.specs.Str.{bytes_eq}
use Rattle.std.specs.Str.Parse.{digits_value}
use Rattle.widl_value.specs.declared.number.Number.TheVariants as numbers
use Rattle.widl_value.specs.Rounding.{nearest_of}
use Rattle.widl_scalar.specs.declared.numerals.Read.{Read}
use Rattle.widl_scalar.specs.declared.numerals.Read.TheVariants as reads
use Rattle.widl_scalar.specs.Numerals.{base_of, signed}

-- n times 10 to `up` over 10 to `down`, where this is whole and at most 2 to the 64
unfoldable pub exact_of : ℕ → ℕ → ℕ → Option ℕ
exact_of n up down =
    let v : ℕ = n * 10 ^ up / 10 ^ down in
    if v * 10 ^ down == n * 10 ^ up && nat_le v (2 ^ 64) then Some v else None

-- the Number nearest to a whole value, where there is one
abbrev pub read_value : Bool → Option ℕ → Read
read_value negative (Some v) = reads.Number (nearest_of (signed negative v))
read_value negative None = reads.OutOfProfile

-- digits of a base, at least one, and nothing else
abbrev pub is_numeral : ℕ → List ℕ → Bool
is_numeral base text = nat_lt 0 (length text) && list_all (λ u. nat_lt (digit_value u) base) text

-- the run of decimal digits at the front, and what follows it
abbrev pub front_digits : List ℕ → List ℕ
front_digits [] = []
front_digits (u ∷ us) = if nat_lt (digit_value u) 10 then u ∷ front_digits us else []

abbrev pub after_digits : List ℕ → List ℕ
after_digits [] = []
after_digits (u ∷ us) = if nat_lt (digit_value u) 10 then after_digits us else u ∷ us

-- the digits after a point at the front, and what follows them
abbrev pub fraction_of : List ℕ → List ℕ
fraction_of text = if slice_index text 0 == 46 then front_digits (drop 1 text) else []

abbrev pub after_fraction : List ℕ → List ℕ
after_fraction text = if slice_index text 0 == 46 then after_digits (drop 1 text) else text

-- whether a minus stands at the front, and what follows a sign
abbrev pub is_minus : List ℕ → Bool
is_minus text = slice_index text 0 == 45

abbrev pub after_sign : List ℕ → List ℕ
after_sign text = if slice_index text 0 == 45 || slice_index text 0 == 43 then drop 1 text else text

-- the powers of ten to multiply by and to divide by that the end of a numeral means: an exponent, or nothing
abbrev pub powers_by : Bool → ℕ → ℕ × ℕ
powers_by true n = (0, n)
powers_by false n = (n, 0)

abbrev pub powers_of : List ℕ → Option (ℕ × ℕ)
powers_of [] = Some (0, 0)
powers_of (mark ∷ rest) =
    if (mark == 101 || mark == 69) && is_numeral 10 (after_sign rest)
    then Some (powers_by (is_minus rest) (digits_value 10 (after_sign rest)))
    else None

-- what is read of digits and of a fraction with the powers of ten that follow
abbrev pub read_scaled : Bool → List ℕ → List ℕ → Option (ℕ × ℕ) → Read
read_scaled negative whole fraction None = reads.Number numbers.NaN
read_scaled negative whole fraction (Some powers) =
    if length whole + length fraction == 0
    then reads.Number numbers.NaN
    else read_value negative (exact_of (digits_value 10 (whole ++ fraction)) powers.0 (length fraction + powers.1))

-- what is read of a decimal numeral without a sign, with this one
unfoldable pub read_unsigned : Bool → List ℕ → Read
read_unsigned negative text = read_scaled negative (front_digits text) (fraction_of (after_digits text)) (powers_of (after_fraction (after_digits text)))

-- what is read of the digits of a base
unfoldable pub read_radix : ℕ → List ℕ → Read
read_radix base digits = if is_numeral base digits then read_value false (exact_of (digits_value base digits) 0 0) else reads.Number numbers.NaN

-- a `0` and the letter of a base at the front: the base, and what follows
abbrev pub prefix_of : List ℕ → Option (ℕ × List ℕ)
prefix_of [] = None
prefix_of (first ∷ []) = None
prefix_of (first ∷ (letter ∷ rest)) = if first == 48 then option_map (λ base. (base, rest)) (base_of letter) else None

-- what is read after a sign
abbrev pub read_signed : Bool → List ℕ → Read
read_signed negative text =
    if bytes_eq text (codes "Infinity")
    then reads.Number (if negative then numbers.NegInf else numbers.PosInf)
    else read_unsigned negative text

abbrev pub read_by : Option (ℕ × List ℕ) → List ℕ → Read
read_by (Some prefix) text = read_radix prefix.0 prefix.1
read_by None text = read_signed (is_minus text) (after_sign text)

-- what is read of a text without white space around it
unfoldable pub read_of : List ℕ → Read
read_of [] = reads.Number (numbers.Whole (pos 0))
read_of (u ∷ us) = read_by (prefix_of (u ∷ us)) (u ∷ us)
