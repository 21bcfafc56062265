-- For proofs alone. The lines of the program as those of the definitions, and what reading a line does.
use Rattle.std.specs.Prelude.{◌≡◌, ℕ, List, [], ◌++◌, map, Option, Some}
use Rattle.widl_lines.specs.declared.blocks.Block.{Block}
use Rattle.widl_lines.specs.declared.script_place.ScriptPlace.{ScriptPlace}
use Rattle.widl_lines.specs.declared.script_place.ScriptFault.{ScriptFault}
use Rattle.widl_lines.specs.declared.script_place.ScriptFault.TheVariants.{Refused, Memory}
use Rattle.widl_lines.specs.declared.reading.LineWords.{LineWords}
use Rattle.widl_lines.specs.declared.reading.Reading.{Reading}
use Rattle.widl_lines.specs.WordTerms.{lexeme_of}
use Rattle.widl_lines.specs.Stacks.{blocks_of}
use Rattle.widl_lines.specs.TextBreaks.{Line, PlacedLine, placed, TextBreak, script_lines}

abbrev pub line_of : LineWords → PlacedLine
line_of line = record { inside = line.inside; line = record { number = line.number; end = line.end; words = map lexeme_of line.words.items } }

-- what was read: the number of the last line with words, the open blocks, and the lines
pub record State : Type 0 where
  pub last : ℕ
  pub blocks : List Block
  pub lines : List PlacedLine

abbrev pub state_of : Reading → State
state_of reading = record { last = reading.last; blocks = blocks_of reading.open_blocks.items; lines = map line_of reading.lines.items }

-- from one state to another lines were read that break nothing
pub record Reads (old new : State) (read : List Line) : Type 0 where
  pub breaks : (lines : List Line) (p : Option ScriptPlace) → TextBreak new.last new.blocks lines p → TextBreak old.last old.blocks (read ++ lines) p
  pub placed_are : (lines : List Line) → old.lines ++ placed old.blocks (read ++ lines) ≡ new.lines ++ placed new.blocks lines

-- whatever lines come after these, the first break is that of these
abbrev pub RefusedIn : State → List Line → ScriptFault → Type 0
RefusedIn state read (Refused place) = (lines : List Line) → TextBreak state.last state.blocks (read ++ lines) (Some place)
RefusedIn state read Memory = Unit {0}

-- all lines of the text were read and break nothing
pub record IsRead (text : List ℕ) (state : State) : Type 0 where
  pub breaks : (p : Option ScriptPlace) → TextBreak state.last state.blocks [] p → TextBreak 1 [] (script_lines text) p
  pub placed_are : state.lines ≡ placed [] (script_lines text)

-- the first break of the lines of the text
abbrev pub IsRefusedBy : List ℕ → ScriptFault → Type 0
IsRefusedBy text (Refused place) = TextBreak 1 [] (script_lines text) (Some place)
IsRefusedBy text Memory = Unit {0}
