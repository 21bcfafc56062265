-- The texts of a script: their escapes, their units and how large they are.
use Rattle.std.specs.Prelude.{ℕ, ◌-◌, ◌&&◌, ◌||◌, nat_eq, nat_lt, if◌then◌else◌, Bool, true, false, List, [], ◌∷◌, ◌++◌, length, take, drop, chars, Option, Some, None, option_map, option_and_then}
use Rattle.std.specs.List.{list_all}
use Rattle.std.specs.Char.{is_ascii_hexdigit}
use Rattle.std.specs.Char.Escape.{encode_utf16}
use Rattle.std.specs.Str.Parse.{digits_value}
use Rattle.widl_lines.specs.declared.word_form.WordForm.{WordForm}
use Rattle.widl_lines.specs.declared.word_form.WordForm.TheVariants.{Text, RawText}

-- what stands between the quotes
abbrev pub between_quotes : List ℕ → List ℕ
between_quotes text = take (length text - 2) (drop 1 text)

-- these units, and then those of what follows
abbrev pub then_units : List ℕ → Option (List ℕ) → Option (List ℕ)
then_units units more = option_map (λ u. units ++ u) more

-- the unit that `\"`, `\\` and `\n` stand for
abbrev pub short_escape : ℕ → Option ℕ
short_escape c = if nat_eq c 34 || nat_eq c 92 then Some c else if nat_eq c 110 then Some 10 else None

abbrev mutual
  -- the units of characters, among which a `\` may begin an escape; none where it begins another one
  pub units_of_characters : Bool → List ℕ → Option (List ℕ)
  units_of_characters escapes [] = Some []
  units_of_characters escapes (c ∷ more) =
      if escapes && nat_eq c 92 then units_of_escape more
      else if nat_lt c 0x110000 then then_units (encode_utf16 c) (units_of_characters escapes more)
      else None

  -- after a `\`
  pub units_of_escape : List ℕ → Option (List ℕ)
  units_of_escape [] = None
  units_of_escape (c ∷ more) = if nat_eq c 117 then units_of_digits more else option_and_then (λ unit. then_units (unit ∷ []) (units_of_characters true more)) (short_escape c)

  -- after `\u`: four hexadecimal digits are a unit
  pub units_of_digits : List ℕ → Option (List ℕ)
  units_of_digits (a ∷ b ∷ c ∷ d ∷ more) =
      if list_all is_ascii_hexdigit (a ∷ b ∷ c ∷ d ∷ []) then then_units (digits_value 16 (a ∷ b ∷ c ∷ d ∷ []) ∷ []) (units_of_characters true more) else None
  units_of_digits _ = None

-- the units of a text; none where an escape is malformed, and for a word that is no text
unfoldable pub units_of : WordForm → List ℕ → Option (List ℕ)
units_of Text text = units_of_characters true (chars (between_quotes text))
units_of RawText text = units_of_characters false (chars (between_quotes text))
units_of _ text = None
