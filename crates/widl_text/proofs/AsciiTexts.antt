-- The units of an ASCII text are its bytes.
use Rattle.std.proofs.Common.{◌≡◌, ℕ, suc, ◌<◌, ◌++◌, List, [], ◌∷◌, refl, ap, ◌∙◌, arith}
use Rattle.std.specs.Char.Escape.{encode_utf16}
use Rattle.std.specs.Str.{IsAscii, chars}
use Rattle.std.proofs.lemmas.Bool.{cond-true, lt-ltb}
use Rattle.std.proofs.lemmas.Str.{chars-IsAscii}
use Rattle.widl_text.specs.Utf16.{utf16_of}

encode_ascii : (c : ℕ) → c < 128 → encode_utf16 c ≡ c ∷ []
encode_ascii c small = cond-true _ _ _ (lt-ltb c 0x1_0000 (omega (arith, small)))

utf16_of_ascii : (bytes : List ℕ) → IsAscii bytes → utf16_of bytes ≡ bytes
utf16_of_ascii [] ascii = refl
utf16_of_ascii (b ∷ bytes) ascii = ap (λ units. units ++ utf16_of bytes) (encode_ascii b (ascii 0)) ∙ ap (λ units. b ∷ units) (utf16_of_ascii bytes (λ i. ascii (suc i)))

pub units_of_ascii : (bytes : List ℕ) → IsAscii bytes → utf16_of (chars bytes) ≡ bytes
units_of_ascii bytes ascii = ap utf16_of (chars-IsAscii bytes ascii) ∙ utf16_of_ascii bytes ascii
