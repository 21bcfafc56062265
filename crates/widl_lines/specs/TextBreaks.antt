-- The first rule of form that a script breaks, and the lines of a script that breaks none.
use Rattle.std.specs.Prelude.{◌≡◌, ℕ, ◌+◌, ◌*◌, ◌≤◌, List, [], ◌∷◌, ◌++◌, length, map, get_or, Option, Some, None, IsUtf8}
use Rattle.widl_text.specs.Limits.{most_file_bytes}
use Rattle.widl_lex.specs.Utf8.{IsUtf8Fault}
use Rattle.widl_lines.specs.declared.blocks.Block.{Block}
use Rattle.widl_lines.specs.declared.line_break.LineBreak.{LineBreak}
use Rattle.widl_lines.specs.declared.script_place.ScriptPlace.{ScriptPlace}
use Rattle.widl_lines.specs.Lines.{lines_of, line_number, column_number}
use Rattle.widl_lines.specs.Words.{Lexeme, words_of}
use Rattle.widl_lines.specs.Blocks.{innermost, blocks_after}
use Rattle.widl_lines.specs.Breaks.{number, LineBreaks}

-- a line that has words: its number, its words, and the column one past its last byte
pub record Line : Type 0 where
  pub number : ℕ
  pub end : ℕ
  pub words : List Lexeme

abbrev pub numbered : ℕ → ℕ → List Lexeme → List Line
numbered number end [] = []
numbered number end (word ∷ words) = record { number = number; end = end; words = word ∷ words } ∷ []

-- the lines that have words, where the first line has this number
abbrev pub lines_from : ℕ → List (List ℕ) → List Line
lines_from number [] = []
lines_from number (line ∷ lines) = numbered number (length line + 1) (words_of line) ++ lines_from (number + 1) lines

-- of a whole text
abbrev pub script_lines : List ℕ → List Line
script_lines text = lines_from 1 (lines_of text)

-- the column of the word of that number, or one past the line's last byte
abbrev pub column_of : List Lexeme → ℕ → ℕ → ℕ
column_of words k end = get_or (map (λ word. word.column) words) k end

-- the place of what a line breaks
abbrev pub place_in : Line → LineBreak → ScriptPlace
place_in line b = record { rule = number b.rule; line = line.number; column = column_of line.words b.word line.end }

-- S6 of a block that isn't closed, at the script's last line with words
abbrev pub unclosed_at : ℕ → ScriptPlace
unclosed_at last = record { rule = 6; line = last; column = 1 }

-- what lines break first, where these blocks are open and the last line before them that has words has this number
pub data TextBreak : ℕ → List Block → List Line → Option ScriptPlace → Type 0 where
  here : {last : ℕ} {blocks : List Block} {line : Line} {lines : List Line} (b : LineBreak) → LineBreaks blocks line.words (Some b) → TextBreak last blocks (line ∷ lines) (Some (place_in line b))
  later : {last : ℕ} {blocks : List Block} {line : Line} {lines : List Line} {p : Option ScriptPlace} → LineBreaks blocks line.words None → TextBreak line.number (blocks_after line.words blocks) lines p → TextBreak last blocks (line ∷ lines) p
  unclosed : {last : ℕ} {block : Block} {blocks : List Block} → TextBreak last (block ∷ blocks) [] (Some (unclosed_at last))
  closed : {last : ℕ} → TextBreak last [] [] None

-- S1, at the first byte that no UTF-8 text continues
abbrev pub utf8_place : List ℕ → ℕ → ScriptPlace
utf8_place text at = record { rule = 1; line = line_number text at; column = column_number text at }

-- what a script breaks first of S1, S2, S3, S4 and S6, or none: S1 comes before the others
pub data ScriptBreak (text : List ℕ) : Option ScriptPlace → Type 0 where
  not_utf8 : (at : ℕ) → IsUtf8Fault text at → ScriptBreak text (Some (utf8_place text at))
  in_lines : {p : Option ScriptPlace} → IsUtf8 text → TextBreak 1 [] (script_lines text) p → ScriptBreak text p

-- a line of a script without a break, and the innermost block that it stands in
pub record PlacedLine : Type 0 where
  pub inside : Option Block
  pub line : Line

-- each line among the blocks that the lines before it leave open
abbrev pub placed : List Block → List Line → List PlacedLine
placed blocks [] = []
placed blocks (line ∷ lines) = record { inside = innermost blocks; line = line } ∷ placed (blocks_after line.words blocks) lines

-- how many words the lines have, and one more for each line
abbrev pub words_and_lines : List PlacedLine → ℕ
words_and_lines [] = 0
words_and_lines (placed_line ∷ lines) = length placed_line.line.words + 1 + words_and_lines lines

-- the most that a script has: no more than two for each byte, and for the end of its last line
abbrev pub most_words_and_lines : ℕ
most_words_and_lines = 2 * (most_file_bytes + 1)

-- the lines of a script without a break
pub record IsScript (lines : List PlacedLine) : Type 0 where
  pub text : List ℕ
  pub short : length text ≤ most_file_bytes
  pub unbroken : ScriptBreak text None
  pub lines_are : lines ≡ placed [] (script_lines text)
