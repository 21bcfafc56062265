-- Signs: what a tree says of its words, one sign a word.
-- Source: this program's own.
use Rattle.std.specs.Prelude.{◌≡◌, ℕ, true, List, [], ◌∷◌, ◌++◌, ℤ}
use Rattle.widl_value.specs.declared.number.Number.{Number}
use Rattle.widl_lines.specs.declared.grammar.Terminal.{Terminal}
use Rattle.widl_lines.specs.declared.grammar.Terminal.TheVariants as terminal
use Rattle.widl_lines.specs.Words.{Lexeme}
use Rattle.widl_script_tree.specs.Trees.{Text}
use Rattle.widl_script_words.specs.Words.{is_name, is_any_name, is_target_name, is_operation_name, is_whole, is_integer, number_of, integer_in, index_of, units_in}

-- a word of the language; a name, a name behind a dot, a name in a target and one of an operation, each by its text; an integer by its Number; a text by its
-- units; an integer of a literal; the number of an argument or an overload; and what no word is
pub data Sign : Type 0 where
  Is : Terminal → Sign
  OfName OfAnyName OfTargetName OfOperationName : Text → Sign
  OfNumber : Number → Sign
  OfUnits : List ℕ → Sign
  OfInteger : ℤ → Sign
  OfIndex : ℕ → Sign
  Nowhere : Sign

-- the sign is that of the word
abbrev pub Stands : Sign → Lexeme → Type 0
Stands (Is t) w = w.terminal ≡ t
Stands (OfName text) w = (is_name w.terminal ≡ true) × (w.text ≡ text)
Stands (OfAnyName text) w = (is_any_name w.terminal ≡ true) × (w.text ≡ text)
Stands (OfTargetName text) w = (is_target_name w.terminal ≡ true) × (w.text ≡ text)
Stands (OfOperationName text) w = (is_operation_name w.terminal ≡ true) × (w.text ≡ text)
Stands (OfNumber n) w = (is_whole w.terminal ≡ true) × (number_of w ≡ n)
Stands (OfUnits units) w = (w.terminal ≡ terminal.Text) × (units_in w ≡ units)
Stands (OfInteger n) w = (is_integer w.terminal ≡ true) × (integer_in w ≡ n)
Stands (OfIndex k) w = (w.terminal ≡ terminal.Natural) × (index_of w ≡ k)
Stands Nowhere w = ⊥

-- the signs in order are those of the words between two of a line
abbrev pub Spells : List Sign → List Lexeme → List Lexeme → Type 0
Spells [] from to = from ≡ to
Spells (sign ∷ more) from to = (w : Lexeme) × (next : List Lexeme) × (from ≡ w ∷ next) × Stands sign w × Spells more next to

-- of the words of a whole line
abbrev pub SpellsLine : List Sign → List Lexeme → Type 0
SpellsLine signs words = Spells signs words []

infixr 60 ◌⧺◌
abbrev pub ◌⧺◌ : List Sign → List Sign → List Sign
a ⧺ b = a ++ b

abbrev pub word : Terminal → List Sign
word t = Is t ∷ []

abbrev pub name : Text → List Sign
name text = OfName text ∷ []
