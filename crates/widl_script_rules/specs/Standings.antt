-- The lines of a script, each with the lines that opened the blocks around it.
-- Source: this program's own.
use Rattle.std.specs.Prelude.{◌≡◌, ℕ, Bool, true, false, List, [], ◌∷◌, map, Option, Some, None, slice_get, if◌then◌else◌}
use Rattle.widl_lines.specs.declared.grammar.Terminal.{Terminal}
use Rattle.widl_lines.specs.declared.grammar.Terminal.TheVariants as terminal
use Rattle.widl_lines.specs.declared.script_place.ScriptPlace.{ScriptPlace}
use Rattle.widl_lines.specs.Words.{Lexeme}
use Rattle.widl_lines.specs.Blocks.{first_word}
use Rattle.widl_lines.specs.TextBreaks.{Line}

-- a line, and the lines that opened the blocks around it, the innermost first
pub record Standing : Type 0 where
  pub around : List Line
  pub line : Line

abbrev pub without_innermost : List Line → List Line
without_innermost [] = []
without_innermost (opening ∷ outer) = outer

-- what is open after a line that begins with the word. `catch` and `else` go on with the block that their `try` or `if` opened
abbrev pub around_after : Terminal → Line → List Line → List Line
around_after terminal.Function line around = line ∷ around
around_after terminal.Steps line around = line ∷ around
around_after terminal.Try line around = line ∷ around
around_after terminal.If line around = line ∷ around
around_after terminal.End line around = without_innermost around
around_after word line around = around

-- each of these lines, where the blocks of the former ones are open before the first
abbrev pub standing_in : List Line → List Line → List Standing
standing_in around [] = []
standing_in around (line ∷ lines) = record { around = around; line = line } ∷ standing_in (around_after (first_word line.words) line around) lines

-- each line of a script
abbrev pub standings : List Line → List Standing
standings lines = standing_in [] lines

abbrev pub is_function_word : Terminal → Bool
is_function_word terminal.Function = true
is_function_word word = false

abbrev pub is_steps_word : Terminal → Bool
is_steps_word terminal.Steps = true
is_steps_word word = false

abbrev pub opens_function : Line → Bool
opens_function line = is_function_word (first_word line.words)

abbrev pub opens_steps : Line → Bool
opens_steps line = is_steps_word (first_word line.words)

-- the innermost block is a steps block, so the line is one of its step lines
abbrev pub is_in_steps : List Line → Bool
is_in_steps [] = false
is_in_steps (opening ∷ outer) = opens_steps opening

-- the line that opens the innermost function around a line
abbrev pub function_around : List Line → Option Line
function_around [] = None
function_around (opening ∷ outer) = if opens_function opening then Some opening else function_around outer

-- the place of a word that breaks the rule of this number
abbrev pub place_of : ℕ → Line → Lexeme → ScriptPlace
place_of rule line word = record { rule = rule; line = line.number; column = word.column }

abbrev pub places_of : ℕ → Line → List Lexeme → List ScriptPlace
places_of rule line words = map (place_of rule line) words

-- the place is that of the line's word of this number, from 0
pub record IsAtWord (rule : ℕ) (line : Line) (number : ℕ) (place : ScriptPlace) : Type 0 where
  pub word : Lexeme
  pub is : slice_get line.words number ≡ Some word
  pub at : place ≡ place_of rule line word

-- the second word of a line, where it has one
abbrev pub second_word : List Lexeme → List Lexeme
second_word [] = []
second_word (first ∷ []) = []
second_word (first ∷ second ∷ more) = second ∷ []
