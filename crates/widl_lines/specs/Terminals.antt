-- The terminal of a word, and whether its literal is too large.
use Rattle.std.specs.Prelude.{ℕ, ◌&&◌, ◌||◌, nat_eq, nat_lt, bytes_eq, if◌then◌else◌, Bool, false, List, [], ◌∷◌, length, Option, Some, None, option_map, unwrap_or, is_some, find}
use Rattle.std.specs.List.{list_all}
use Rattle.std.specs.Char.{is_ascii_alphabetic, is_ascii_alphanumeric}
use Rattle.widl_text.specs.Limits.{most_text_units}
use Rattle.widl_lines.specs.declared.grammar.Terminal.{Terminal}
use Rattle.widl_lines.specs.declared.grammar.Terminal.TheVariants as terminal
use Rattle.widl_lines.specs.declared.word_form.WordForm.{WordForm}
use Rattle.widl_lines.specs.declared.word_form.WordForm.TheVariants.{Bare, Text, RawText, Unclosed, Decimal, Missing}
use Rattle.widl_lines.specs.Integers.{is_natural, is_negative, is_integer, is_large_integer}
use Rattle.widl_lines.specs.ListedWords.{listed_words}
use Rattle.widl_lines.specs.Texts.{units_of}

-- the terminal of a word that the language lists
abbrev pub listed : List ℕ → Option Terminal
listed text = option_map (λ word. word.1) (find (λ word. bytes_eq word.0 text) listed_words)

-- [0-9A-Za-z_], and in identifiers of Web IDL also `-`
abbrev pub is_word_byte : ℕ → Bool
is_word_byte b = is_ascii_alphanumeric b || nat_eq b 95

abbrev pub is_identifier_byte : ℕ → Bool
is_identifier_byte b = is_word_byte b || nat_eq b 45

-- [A-Za-z][0-9A-Za-z_]*
abbrev pub is_name : List ℕ → Bool
is_name [] = false
is_name (b ∷ more) = is_ascii_alphabetic b && list_all is_word_byte more

-- _[0-9A-Za-z_]*
abbrev pub is_underscored : List ℕ → Bool
is_underscored [] = false
is_underscored (b ∷ more) = nat_eq b 95 && list_all is_word_byte more

-- [A-Za-z][0-9A-Za-z_-]*
abbrev pub is_plain_identifier : List ℕ → Bool
is_plain_identifier [] = false
is_plain_identifier (b ∷ more) = is_ascii_alphabetic b && list_all is_identifier_byte more

-- the same, with a `-` before it or none
abbrev pub is_identifier : List ℕ → Bool
is_identifier [] = false
is_identifier (b ∷ more) = if nat_eq b 45 then is_plain_identifier more else is_plain_identifier (b ∷ more)

-- the class of a word that the language doesn't list; an identifier that is no name has a `-`
abbrev pub class_of : List ℕ → Terminal
class_of text =
    if is_name text then terminal.Name
    else if is_underscored text then terminal.UnderscoredName
    else if is_identifier text then terminal.DashedName
    else if is_natural text then terminal.Natural
    else if is_negative text then terminal.Negative
    else if is_integer text then terminal.OtherInteger
    else terminal.Unknown

unfoldable pub terminal_of : WordForm → List ℕ → Terminal
terminal_of Bare text = unwrap_or (listed text) (class_of text)
terminal_of Text text = if is_some (units_of Text text) then terminal.Text else terminal.Unknown
terminal_of RawText text = terminal.Text
terminal_of Unclosed text = terminal.Text
terminal_of Decimal text = terminal.Unknown
terminal_of Missing text = terminal.Unknown

-- more than 1,000 units
abbrev pub has_many_units : Option (List ℕ) → Bool
has_many_units None = false
has_many_units (Some units) = nat_lt most_text_units (length units)

-- an integer above 2 to the 64 in magnitude, or a text of more than 1,000 units
unfoldable pub is_large : WordForm → List ℕ → Bool
is_large Bare text = is_large_integer text
is_large form text = has_many_units (units_of form text)
