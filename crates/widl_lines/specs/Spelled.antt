-- For proofs alone. What is split off a text at its front.
use Rattle.std.specs.Prelude.{◌≡◌, ℕ, ◌<◌, Bool, true, false, List, [], ◌∷◌, length, chars, ⊤, Option, None}
use Rattle.std.specs.Char.{is_ascii_hexdigit, digit_value}
use Rattle.std.specs.Char.Escape.{encode_utf16}
use Rattle.widl_lines.specs.Texts.{then_units, units_of_characters}
use Rattle.widl_lines.specs.declared.texts.Spelled.{Spelled}
use Rattle.widl_lines.specs.declared.texts.Spelled.TheVariants.{End, Code, Malformed}

-- no hexadecimal digit stands first
abbrev pub NoDigit : List ℕ → Type 0
NoDigit [] = ⊤
NoDigit (c ∷ more) = is_ascii_hexdigit c ≡ false

-- one does, and is the digit of the value
abbrev pub Digit : List ℕ → ℕ → List ℕ → Type 0
Digit text value rest = (c : ℕ) × (chars text ≡ c ∷ chars rest) × (is_ascii_hexdigit c ≡ true) × (value ≡ digit_value c) × (value < 16) × (length rest < length text)

-- the units of characters are those of the code, which is one below the bound, and of the rest of the text
abbrev pub Spells : ℕ → List ℕ → Option (List ℕ) → Bool → ℕ → List ℕ → Type 0
Spells bound text units escapes code rest = (units ≡ then_units (encode_utf16 code) (units_of_characters escapes (chars rest))) × (code < bound) × (length rest < length text)

abbrev pub IsNext : Bool → List ℕ → Spelled → Type 0
IsNext escapes text End = chars text ≡ []
IsNext escapes text (Code code rest) = Spells 0x110000 text (units_of_characters escapes (chars text)) escapes code rest.now
IsNext escapes text Malformed = units_of_characters escapes (chars text) ≡ None
