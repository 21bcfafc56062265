-- White space around a numeral.
-- Source: ECMA-262, WhiteSpace and LineTerminator; TrimString.
use Rattle.std.specs.Prelude.{ℕ, Bool, ◌&&◌, ◌||◌, ◌==◌, if◌then◌else◌, nat_le, List, [], ◌∷◌, reverse}

-- TAB to CR, U+FEFF, U+2028, U+2029 and the space separators
unfoldable pub is_white : ℕ → Bool
is_white u = (nat_le 0x9 u && nat_le u 0xD) || u == 0x20 || u == 0xA0 || u == 0x1680 || (nat_le 0x2000 u && nat_le u 0x200A)
    || u == 0x2028 || u == 0x2029 || u == 0x202F || u == 0x205F || u == 0x3000 || u == 0xFEFF

abbrev pub without_front : List ℕ → List ℕ
without_front [] = []
without_front (u ∷ us) = if is_white u then without_front us else u ∷ us

-- the text without the white space at its front and at its end
unfoldable pub trimmed : List ℕ → List ℕ
trimmed text = reverse (without_front (reverse (without_front text)))
