-- How the units of a text are counted and gathered.
use Rattle.std.proofs.Common.{◌≡◌, ℕ, ◌+◌, ◌*◌, ◌≤◌, Bool, List, ◌++◌, Option, Some, None, length, refl, sym, ◌∙◌, ap, arith, nat_lt, false, zero-add, add_assoc, length-append, append_assoc}
use Rattle.std.specs.Prelude.{is_some, option_map}
use Rattle.std.specs.Char.Escape.{encode_utf16}
use Rattle.std.specs.Str.{chars}
use Rattle.widl_text.specs.Limits.{most_text_units}
use Rattle.widl_lines.specs.Spelled.{Spells}
use Rattle.widl_lines.specs.Terminals.{has_many_units}
use Rattle.widl_lines.specs.Texts.{then_units, units_of_characters}

abbrev pub counts : ℕ → Option (List ℕ) → Option ℕ
counts n units = option_map (λ u. n + length u) units

pub from_zero : (units : Option (List ℕ)) → option_map length units ≡ counts 0 units
from_zero None = refl
from_zero (Some u) = ap Some (sym (zero-add (length u)))

then_counts : (n : ℕ) (first : List ℕ) (units : Option (List ℕ)) → counts n (then_units first units) ≡ counts (n + length first) units
then_counts n first None = refl
then_counts n first (Some u) = ap Some (ap (λ k. n + k) (length-append first u) ∙ sym (add_assoc n (length first) (length u)))

-- one character or escape more is counted
pub counted_more : (n count code : ℕ) (text rest more : List ℕ) (escapes : Bool) → option_map length (units_of_characters escapes (chars text)) ≡ counts n (units_of_characters escapes (chars rest))
    → Spells 0x110000 rest (units_of_characters escapes (chars rest)) escapes code more → count ≡ length (encode_utf16 code)
    → option_map length (units_of_characters escapes (chars text)) ≡ counts (n + count) (units_of_characters escapes (chars more))
counted_more n count code text rest more escapes before is counted =
    let later = units_of_characters escapes (chars more) in
    before ∙ ap (counts n) is.0 ∙ then_counts n (encode_utf16 code) later ∙ ap (λ k. counts (n + k) later) (sym counted)

pub fewer : (n count code whole : ℕ) (rest more : List ℕ) (escapes : Bool) → n + 2 * length rest ≤ 2 * whole → Spells 0x110000 rest (units_of_characters escapes (chars rest)) escapes code more → count ≤ 2
    → n + count + 2 * length more ≤ 2 * whole
fewer n count code whole rest more escapes before is few = omega (arith, before, is.2, few)

then_then : (a b : List ℕ) (units : Option (List ℕ)) → then_units a (then_units b units) ≡ then_units (a ++ b) units
then_then a b None = refl
then_then a b (Some u) = ap Some (sym (append_assoc a b u))

-- one character or escape more is gathered
pub gathered_more : (units old : List ℕ) (code : ℕ) (text rest more : List ℕ) (escapes : Bool) → units_of_characters escapes (chars text) ≡ then_units old (units_of_characters escapes (chars rest))
    → Spells 0x110000 rest (units_of_characters escapes (chars rest)) escapes code more → units ≡ old ++ encode_utf16 code
    → units_of_characters escapes (chars text) ≡ then_units units (units_of_characters escapes (chars more))
gathered_more units old code text rest more escapes before is grown =
    let later = units_of_characters escapes (chars more) in
    before ∙ ap (then_units old) is.0 ∙ then_then old (encode_utf16 code) later ∙ ap (λ u. then_units u later) (sym grown)

-- what a count says of the units
pub many_counted : (units : Option (List ℕ)) (n : ℕ) → option_map length units ≡ Some n → nat_lt most_text_units n ≡ has_many_units units
many_counted None n e = cc
many_counted (Some u) n e = let same : length u ≡ n = cc in ap (nat_lt most_text_units) (sym same)

pub none_counted : (units : Option (List ℕ)) → option_map length units ≡ None → false ≡ has_many_units units
none_counted None e = refl
none_counted (Some u) e = cc

pub is_counted : (units : Option (List ℕ)) → is_some (option_map length units) ≡ is_some units
is_counted None = refl
is_counted (Some u) = refl
