-- The units of characters in UTF-16.
-- Source: ECMA-262, UTF16EncodeCodePoint and CodePointsToString.
use Rattle.std.specs.Prelude.{ℕ, List, [], ◌∷◌, ◌++◌}
use Rattle.std.specs.Char.Escape.{encode_utf16}

-- a character below U+10000 is one unit, any other a leading and a trailing surrogate
abbrev pub utf16_of : List ℕ → List ℕ
utf16_of [] = []
utf16_of (character ∷ characters) = encode_utf16 character ++ utf16_of characters
