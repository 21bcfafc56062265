-- The words of a line: at each byte that is no blank a word begins, and goes on as far as its form allows.
use Rattle.std.specs.Prelude.{ℕ, zero, suc, ◌+◌, List, [], ◌∷◌, ◌++◌, length, take, codes, Bool, true, false, not, ◌||◌, ◌&&◌, nat_eq, if◌then◌else◌, bytes_eq, Option, Some, None, option_map}
use Rattle.std.specs.Char.{is_ascii_alphanumeric, is_ascii_digit}
use Rattle.widl_lines.specs.declared.grammar.Terminal.{Terminal}
use Rattle.widl_lines.specs.declared.word_form.WordForm.{WordForm}
use Rattle.widl_lines.specs.declared.word_form.WordForm.TheVariants.{Bare, Text, RawText, Unclosed, Decimal, Missing}
use Rattle.widl_lines.specs.declared.shape.Context.{Context}
use Rattle.widl_lines.specs.declared.shape.Context.TheVariants.{First, InTarget, InStep, AfterSlot, AfterLiteral, Elsewhere}
use Rattle.widl_lines.specs.declared.shape.Shape.{Shape}
use Rattle.widl_lines.specs.Terminals.{terminal_of}

-- space, TAB and CR
abbrev pub is_blank : ℕ → Bool
is_blank b = nat_eq b 32 || nat_eq b 9 || nat_eq b 13

-- the bytes of names and numbers, in some places also the dash
abbrev pub is_run : Bool → ℕ → Bool
is_run dashes b = is_ascii_alphanumeric b || nat_eq b 95 || (dashes && nat_eq b 45)

abbrev pub run_length : Bool → List ℕ → ℕ
run_length dashes [] = 0
run_length dashes (b ∷ text) = if is_run dashes b then suc (run_length dashes text) else 0

-- in a target, and after the word `slot` of a step line, a run may hold dashes
abbrev pub has_dashes : Context → Bool
has_dashes InTarget = true
has_dashes AfterSlot = true
has_dashes _ = false

-- after the word `literal` of a step line texts and numbers are those of Web IDL
abbrev pub is_literal : Context → Bool
is_literal AfterLiteral = true
is_literal _ = false

-- how many bytes a text has after its opening quote, with the closing one; none where it has no closing one
abbrev pub text_length : Bool → Bool → List ℕ → Option ℕ
text_length escapes escaped [] = None
text_length escapes escaped (b ∷ text) =
    if nat_eq b 34 && not escaped then Some 1
    else option_map suc (text_length escapes (escapes && not escaped && nat_eq b 92) text)

-- how many bytes a decimal has after its first one: digits, a point and a run; none where no point comes after the digits
abbrev pub decimal_length : List ℕ → Option ℕ
decimal_length [] = None
decimal_length (b ∷ text) =
    if is_ascii_digit b then option_map suc (decimal_length text)
    else if nat_eq b 46 then Some (suc (run_length false text))
    else None

-- a word's form, and how many bytes it has after its first one
abbrev pub quoted : Context → List ℕ → Option ℕ → Shape
quoted c text None = record { form = Unclosed; more = length text }
quoted c text (Some n) = record { form = (if is_literal c then RawText else Text); more = n }

abbrev pub number : List ℕ → Option ℕ → Shape
number text None = record { form = Bare; more = run_length false text }
number text (Some n) = record { form = Decimal; more = n }

abbrev pub bare : Context → ℕ → List ℕ → Shape
bare c b text = record { form = Bare; more = (if is_run (has_dashes c) b || nat_eq b 45 || nat_eq b 64 then run_length (has_dashes c) text else 0) }

-- of the word that begins with the byte and goes on in the text
abbrev pub shape_of : Context → ℕ → List ℕ → Shape
shape_of c b text =
    if nat_eq b 34 then quoted c text (text_length (not (is_literal c)) false text)
    else if is_literal c && (is_ascii_digit b || nat_eq b 45) then number text (decimal_length text)
    else bare c b text

-- the first words of the step lines that name slots and literals
abbrev pub begins_step : List ℕ → Bool
begins_step word = bytes_eq word (codes "return") || bytes_eq word (codes "append") || bytes_eq word (codes "invoke")

abbrev pub after_first : List ℕ → Context
after_first word =
    if bytes_eq word (codes "steps") then InTarget
    else if bytes_eq word (codes "slot") then AfterSlot
    else if begins_step word then InStep
    else Elsewhere

abbrev pub in_step : List ℕ → Context
in_step word = if bytes_eq word (codes "slot") then AfterSlot else if bytes_eq word (codes "literal") then AfterLiteral else InStep

-- where the next word stands
abbrev pub next_context : Context → List ℕ → Context
next_context First word = after_first word
next_context InTarget word = InTarget
next_context InStep word = in_step word
next_context AfterSlot word = InStep
next_context AfterLiteral word = InStep
next_context Elsewhere word = Elsewhere

-- a word of a line: its terminal, its form, the column of its first byte, and its bytes
pub record Lexeme : Type 0 where
  pub terminal : Terminal
  pub form : WordForm
  pub column : ℕ
  pub text : List ℕ

abbrev pub lexeme : WordForm → ℕ → List ℕ → Lexeme
lexeme form column text = record { terminal = terminal_of form text; form = form; column = column; text = text }

-- one past the end of a line that ends in a text without its closing quote, a word is missing
abbrev pub missing : WordForm → ℕ → List Lexeme
missing Unclosed end = lexeme Missing end [] ∷ []
missing _ end = []

-- the words from a column on, where so many bytes of a word are still to be passed over
abbrev pub words_from : Context → ℕ → ℕ → List ℕ → List Lexeme
words_from c column skip [] = []
words_from c column (suc skip) (b ∷ text) = words_from c (column + 1) skip text
words_from c column zero (b ∷ text) =
    if is_blank b then words_from c (column + 1) zero text
    else
    let shape = shape_of c b text in
    let word = b ∷ take shape.more text in
    lexeme shape.form column word ∷ missing shape.form (column + 1 + shape.more) ++ words_from (next_context c word) (column + 1) shape.more text

-- the line's first byte is `#`
abbrev pub is_comment : List ℕ → Bool
is_comment [] = false
is_comment (b ∷ line) = nat_eq b 35

-- a comment has none
unfoldable pub words_of : List ℕ → List Lexeme
words_of line = if is_comment line then [] else words_from First 1 0 line
