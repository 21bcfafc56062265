-- For proofs alone. The blocks around the lines of the program, by the places of the lines that opened them.
use Rattle.std.specs.Prelude.{◌≡◌, ℕ, ◌<◌, Bool, ◌&&◌, nat_eq, bytes_eq, List, [], ◌∷◌, ◌++◌, length, map, take, get_or, slice_get, Option, Some, None, if◌then◌else◌}
use Rattle.std.specs.Borrow.{Bor}
use Rattle.std.specs.List.{list_any}
use Rattle.widl_lines.specs.declared.reading.LineWords.{LineWords}
use Rattle.widl_lines.specs.declared.grammar.Terminal.{Terminal}
use Rattle.widl_lines.specs.declared.words.Word.{Word}
use Rattle.widl_lines.specs.Blocks.{first_word}
use Rattle.widl_lines.specs.LineTerms.{line_of}
use Rattle.widl_lines.specs.WordTerms.{lexeme_of}
use Rattle.widl_lines.specs.Words.{Lexeme}
use Rattle.widl_lines.specs.TextBreaks.{Line}
use Rattle.widl_script_rules.specs.declared.standings.Around.{Around}
use Rattle.widl_script_rules.specs.Standings.{Standing, around_after, function_around, standings}
use Rattle.widl_script_rules.specs.Names.{bound_in, bound_where, function_name, has_name, parameters_in, stands_in}

abbrev pub plain_line : LineWords → Line
plain_line line = (line_of line).line

abbrev pub plain_lines : List LineWords → List Line
plain_lines lines = map plain_line lines

-- one of the texts is this one
abbrev pub has_key : List (Bor (List ℕ)) → List ℕ → Bool
has_key keys text = list_any (λ key. bytes_eq text key.now) keys

-- the word, if there is one
abbrev pub word_list : Option (Bor Word) → List Lexeme
word_list None = []
word_list (Some word) = lexeme_of word.now ∷ []

-- one of the pairs is this number with this text
abbrev pub has_pair : List (ℕ × Bor (List ℕ)) → ℕ → List ℕ → Bool
has_pair keys number text = list_any (λ key. nat_eq number key.0 && bytes_eq text key.1.now) keys

-- the first word of each line
abbrev pub first_words : List Line → List Terminal
first_words lines = map (λ (line : Line). first_word line.words) lines

-- what is open after these lines
abbrev pub open_after : List Line → List Line → List Line
open_after around [] = around
open_after around (line ∷ lines) = open_after (around_after (first_word line.words) line around) lines

-- what is open before the line at a place
abbrev pub around_at : List Line → ℕ → List Line
around_at lines place = open_after [] (take place lines)

module _ (lines : List Line) where
  -- the innermost block was opened by the line at this place below the limit
  abbrev pub IsBlock : ℕ → Option ℕ → List Line → Type 0
  IsBlock limit None around = around ≡ []
  IsBlock limit (Some place) around = (place < limit) × ((opening : Line) × (slice_get lines place ≡ Some opening) × (around ≡ opening ∷ around_at lines place))

  abbrev pub IsFunction : Option ℕ → List Line → Type 0
  IsFunction None around = function_around around ≡ None
  IsFunction (Some place) around = (opening : Line) × (slice_get lines place ≡ Some opening) × (function_around around ≡ Some opening)

  pub record IsAround (limit : ℕ) (a : Around) (around : List Line) : Type 0 where
    pub block : IsBlock limit a.block around
    pub function : IsFunction a.function around

  -- these are what is around the first lines
  abbrev pub AreAround : List Around → Type 0
  AreAround all = (place : ℕ) (d : Around) → place < length all → IsAround place (get_or all place d) (around_at lines place)

-- what a line binds that stands in no function
abbrev pub bound_by_global : Standing → List Lexeme
bound_by_global s = if stands_in None s then bound_in s.line ++ function_name s.line else []

module _ (lines : List Line) where
  -- the pairs are the parameters, with the places of the lines that open their functions
  abbrev pub HasParameters : List (ℕ × Bor (List ℕ)) → Type 0
  HasParameters keys = (place : ℕ) (opening : Line) (text : List ℕ) → slice_get lines place ≡ Some opening → has_pair keys place text ≡ has_name (parameters_in opening) text

  -- the pairs are what is bound in functions, with the numbers of the lines that open them
  abbrev pub HasLocals : List (ℕ × Bor (List ℕ)) → Type 0
  HasLocals keys = (function : Line) (text : List ℕ) → has_pair keys function.number text ≡ has_name (bound_where (standings lines) (Some function)) text
