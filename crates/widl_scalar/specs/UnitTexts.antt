-- The conversions of texts to texts.
-- Source: Web IDL, USVString and ByteString; Infra, "convert a string into a scalar value string".
use Rattle.std.specs.Prelude.{ℕ, List}
use Rattle.std.specs.Char.Utf16.{utf16_lossy_chars}
use Rattle.widl_text.specs.Utf16.{utf16_of}

-- the units of the characters that the text spells, with U+FFFD for each surrogate that has no partner
abbrev pub scalar_units : List ℕ → List ℕ
scalar_units units = utf16_of (utf16_lossy_chars units)
