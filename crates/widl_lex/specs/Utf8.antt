-- UTF-8 as a pattern, and the first byte that no UTF-8 text continues.
-- Source: RFC 3629, section 4; The Unicode Standard, table 3-7.
use Rattle.std.specs.Prelude.{◌≡◌, ℕ, ◌+◌, ◌<◌, ◌≤◌, List, [], ◌∷◌, ◌++◌, length, take}
use Rattle.std.specs.Str.{IsUtf8}
use Rattle.widl_lex.specs.Pattern.{Pattern, Range, Star, in_row, any_of, byte}

-- the bytes of a character from U+0080, U+0800 and U+10000 on
abbrev pub tail : Pattern
tail = Range 0x80 0xBF

abbrev pub two_bytes : Pattern
two_bytes = in_row (Range 0xC2 0xDF ∷ tail ∷ [])

abbrev pub three_bytes : Pattern
three_bytes = any_of (
    in_row (byte 0xE0 ∷ Range 0xA0 0xBF ∷ tail ∷ []) ∷
    in_row (Range 0xE1 0xEC ∷ tail ∷ tail ∷ []) ∷
    in_row (byte 0xED ∷ Range 0x80 0x9F ∷ tail ∷ []) ∷
    in_row (Range 0xEE 0xEF ∷ tail ∷ tail ∷ []) ∷ [])

abbrev pub four_bytes : Pattern
four_bytes = any_of (
    in_row (byte 0xF0 ∷ Range 0x90 0xBF ∷ tail ∷ tail ∷ []) ∷
    in_row (Range 0xF1 0xF3 ∷ tail ∷ tail ∷ tail ∷ []) ∷
    in_row (byte 0xF4 ∷ Range 0x80 0x8F ∷ tail ∷ tail ∷ []) ∷ [])

-- a text: characters in a row
abbrev pub utf8_text : Pattern
utf8_text = Star (any_of (Range 0x00 0x7F ∷ two_bytes ∷ three_bytes ∷ four_bytes ∷ []))

-- some UTF-8 text begins with the bytes
abbrev pub BeginsUtf8 : List ℕ → Type 0
BeginsUtf8 bytes = (more : List ℕ) × IsUtf8 (bytes ++ more)

-- the first byte up to and including which no UTF-8 text begins, or the length where the bytes end inside a character
pub record IsUtf8Fault (bytes : List ℕ) (place : ℕ) : Type 0 where
  pub within : place ≤ length bytes
  pub before : BeginsUtf8 (take place bytes)
  pub fault : place < length bytes → BeginsUtf8 (take (place + 1) bytes) → ⊥
  pub at_end : place ≡ length bytes → IsUtf8 bytes → ⊥
