-- The integers of a script, and how large they are. After `literal` they are those of Web IDL.
-- Source: Web IDL, the tokens of "IDL grammar".
use Rattle.std.specs.Prelude.{ℕ, ◌^◌, ◌&&◌, ◌||◌, nat_eq, nat_lt, bytes_eq, codes, if◌then◌else◌, Bool, true, false, List, [], ◌∷◌}
use Rattle.std.specs.List.{list_all}
use Rattle.std.specs.Int.{is_in_range}
use Rattle.std.specs.Char.{is_ascii_digit, is_ascii_hexdigit}
use Rattle.widl_text.specs.IntegerTokens.{magnitude}

-- [1-9][0-9]*
abbrev pub is_positive : List ℕ → Bool
is_positive [] = false
is_positive (b ∷ more) = is_in_range 49 57 b && list_all is_ascii_digit more

-- -[1-9][0-9]*
abbrev pub is_negative : List ℕ → Bool
is_negative [] = false
is_negative (b ∷ more) = nat_eq b 45 && is_positive more

-- 0|[1-9][0-9]*
abbrev pub is_natural : List ℕ → Bool
is_natural text = bytes_eq text (codes "0") || is_positive text

-- [0-7]
abbrev pub is_octal_digit : ℕ → Bool
is_octal_digit b = is_in_range 48 55 b

-- [0-9A-Fa-f]+
abbrev pub is_hexadecimal : List ℕ → Bool
is_hexadecimal [] = false
is_hexadecimal (b ∷ more) = list_all is_ascii_hexdigit (b ∷ more)

-- what follows a leading 0: [Xx][0-9A-Fa-f]+|[0-7]*
abbrev pub is_after_zero : List ℕ → Bool
is_after_zero [] = true
is_after_zero (b ∷ more) = if nat_eq b 0x78 || nat_eq b 0x58 then is_hexadecimal more else list_all is_octal_digit (b ∷ more)

-- [1-9][0-9]*|0[Xx][0-9A-Fa-f]+|0[0-7]*
abbrev pub is_unsigned : List ℕ → Bool
is_unsigned [] = false
is_unsigned (b ∷ more) = if nat_eq b 48 then is_after_zero more else is_positive (b ∷ more)

-- the word without a leading `-`
abbrev pub without_minus : List ℕ → List ℕ
without_minus [] = []
without_minus (b ∷ more) = if nat_eq b 45 then more else b ∷ more

-- an integer of Web IDL
abbrev pub is_integer : List ℕ → Bool
is_integer text = is_unsigned (without_minus text)

-- an integer above 2 to the 64 in magnitude
abbrev pub is_large_integer : List ℕ → Bool
is_large_integer text = is_integer text && nat_lt (2 ^ 64) (magnitude (without_minus text))
