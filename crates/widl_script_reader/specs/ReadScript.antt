-- For proofs alone. How far the lines of a script were read.
use Rattle.std.specs.Prelude.{◌≡◌, ℕ, List, map, length, None}
use Rattle.widl_lines.specs.TextBreaks.{Line, PlacedLine, TextBreak}
use Rattle.widl_script_tree.specs.declared.row.Row.{Row}
use Rattle.widl_script_tree.specs.Growth.{Grown}
use Rattle.widl_script_tree.specs.Parts.{IsLowerRow}
use Rattle.widl_script_tree.specs.Tables.{Tables, statements_tree}
use Rattle.widl_script_reader.specs.declared.frames.Builder.{Builder}
use Rattle.widl_script_words.specs.SpelledStatements.{words_of}
use Rattle.widl_script_reader.specs.StatementPuts.{statements_at}
use Rattle.widl_script_reader.specs.Building.{Sound, StandsAt, kinds_of, stack_of}

-- the lines up to these were read, and the others break nothing
pub record ReadTo (lines : List PlacedLine) (b : Builder) (rest : List PlacedLine) : Type 0 where
  pub sound : Sound b
  pub last : ℕ
  pub left : List Line
  pub unbroken : TextBreak last (kinds_of (stack_of b)) left None
  pub same : words_of rest ≡ map (λ line. line.words) left
  pub stands : (u : Tables) → Grown b.nodes u → StandsAt (words_of lines) u b (words_of rest)

-- the tables went on to these, in which the row has the builder's statements
pub record EndsAs (b : Builder) (t : Tables) (top : Row) : Type 0 where
  pub grown : Grown b.nodes t
  pub functions : t.functions ≡ b.nodes.functions
  pub lower : IsLowerRow (length t.statements) top
  pub trees : (u : Tables) → Grown t u → statements_tree u top ≡ statements_at u b.places.items
