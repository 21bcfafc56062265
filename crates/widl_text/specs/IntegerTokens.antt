-- What integer tokens mean.
-- Source: Web IDL, the tokens of "IDL grammar".
use Rattle.std.specs.Prelude.{ℕ, ◌-◌, ◌^◌, ◌||◌, min, nat_eq, if◌then◌else◌, List, [], ◌∷◌, ℤ, pos, neg_ℤ}
use Rattle.std.specs.Str.Parse.{digits_value}

-- what follows a leading 0: an `x` or `X` and hexadecimal digits, or octal digits
abbrev pub behind_zero : List ℕ → ℕ
behind_zero [] = 0
behind_zero (c ∷ more) = if nat_eq c 0x78 || nat_eq c 0x58 then digits_value 16 more else digits_value 8 (c ∷ more)

-- the value of an integer token without its sign
abbrev pub magnitude : List ℕ → ℕ
magnitude [] = 0
magnitude (c ∷ more) = if nat_eq c 0x30 then behind_zero more else digits_value 10 (c ∷ more)

-- the value of an integer token, or the nearest number of 128 bits
abbrev pub integer_of : List ℕ → ℤ
integer_of [] = pos 0
integer_of (c ∷ more) = if nat_eq c 0x2D then neg_ℤ (pos (min (magnitude more) (2 ^ 127))) else pos (min (magnitude (c ∷ more)) (2 ^ 127 - 1))

-- a number, or the greatest one of 128 bits without a sign
abbrev pub saturated : ℕ → ℕ
saturated number = min number (2 ^ 128 - 1)
