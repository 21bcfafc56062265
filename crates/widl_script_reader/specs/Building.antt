-- For proofs alone. The lines of a script that were read, and the blocks that they leave open.
use Rattle.std.specs.Prelude.{◌≡◌, ℕ, ◌+◌, ◌<◌, ◌≤◌, Bool, true, false, List, [], ◌∷◌, length, map, reverse, All, Option, None}
use Rattle.widl_lines.specs.declared.blocks.Block.{Block}
use Rattle.widl_lines.specs.declared.blocks.Block.TheVariants as kind
use Rattle.widl_lines.specs.Words.{Lexeme}
use Rattle.widl_lines.specs.Blocks.{blocks_after}
use Rattle.widl_lines.specs.Breaks.{LineBreaks}
use Rattle.widl_script_tree.specs.declared.row.Row.{Row}
use Rattle.widl_script_tree.specs.Trees.{Text, StatementTrees}
use Rattle.widl_script_tree.specs.Tables.{Tables, name_at, expression_tree, statement_tree, statements_tree, function_tree}
use Rattle.widl_script_tree.specs.Parts.{IsName, IsExpression, IsLowerRow}
use Rattle.widl_script_tree.specs.Growth.{Grown}
use Rattle.widl_script_reader.specs.declared.frames.OpenBlock.{OpenBlock}
use Rattle.widl_script_reader.specs.declared.frames.OpenBlock.TheVariants as block
use Rattle.widl_script_reader.specs.declared.frames.Frame.{Frame}
use Rattle.widl_script_reader.specs.declared.frames.Builder.{Builder}
use Rattle.widl_script_words.specs.SpelledStatements.{Lines}
use Rattle.widl_script_reader.specs.OpenBlocks.{Open, InTry, InCatch, InThen, InElse, InFunction, InSteps, Standing}
use Rattle.widl_script_reader.specs.ReadExpressions.{Distinct}
use Rattle.widl_script_reader.specs.StatementPuts.{statements_at, AllStatements}

-- 1. Trees of open blocks

abbrev pub block_open : Tables → StatementTrees → OpenBlock → Open
block_open u before block.Try = InTry before
block_open u before (block.Catch body name) = InCatch before (statements_tree u body) (name_at u name)
block_open u before (block.Then left right) = InThen before (expression_tree u left) (expression_tree u right)
block_open u before (block.Else left right met) = InElse before (expression_tree u left) (expression_tree u right) (statements_tree u met)
block_open u before (block.Function head outer) = InFunction before (name_at u head.name) (map (name_at u) head.params)
block_open u before (block.Steps target lines) = InSteps target lines

abbrev pub open_of : Tables → Frame → Open
open_of u frame = block_open u (statements_at u frame.before.items) frame.block

-- the open blocks, the innermost first
abbrev pub opens_of : Tables → List Frame → List Open
opens_of u stack = map (open_of u) stack

abbrev pub kind_of : OpenBlock → Block
kind_of block.Try = kind.Try
kind_of (block.Catch body name) = kind.Catch
kind_of (block.Then left right) = kind.If
kind_of (block.Else left right met) = kind.Else
kind_of (block.Function head outer) = kind.Function
kind_of (block.Steps target lines) = kind.Steps

-- the frames, the innermost first, and what kinds of blocks they are
abbrev pub stack_of : Builder → List Frame
stack_of b = reverse b.frames.items

abbrev pub kinds_of : List Frame → List Block
kinds_of stack = map (λ frame. kind_of frame.block) stack

-- 2. What is there

abbrev pub IsSoundBlock : Tables → OpenBlock → Type 0
IsSoundBlock t block.Try = Unit {0}
IsSoundBlock t (block.Catch body name) = IsLowerRow (length t.statements) body × IsName t name
IsSoundBlock t (block.Then left right) = IsExpression t left × IsExpression t right
IsSoundBlock t (block.Else left right met) = IsExpression t left × IsExpression t right × IsLowerRow (length t.statements) met
IsSoundBlock t (block.Function head outer) = IsName t head.name × All (IsName t) head.params × All (IsName t) outer
IsSoundBlock t (block.Steps target lines) = Unit {0}

pub record IsSoundFrame (t : Tables) (frame : Frame) : Type 0 where
  pub sound : IsSoundBlock t frame.block
  pub before : AllStatements t frame.before.items

-- the places and the numbers of all that is kept are those of the tables
pub record Sound (b : Builder) : Type 0 where
  pub differ : Distinct b.nodes.names
  pub places : AllStatements b.nodes b.places.items
  pub names : All (IsName b.nodes) b.names
  pub frames : All (IsSoundFrame b.nodes) b.frames.items

-- 3. What the lines so far are

-- the names that the outer functions have bound, as their frames keep them
abbrev pub kept_by : Tables → OpenBlock → List (List Text) → List (List Text)
kept_by u (block.Function head outer) kept = map (name_at u) outer ∷ kept
kept_by u _ kept = kept

abbrev pub kept_of : Tables → List Frame → List (List Text)
kept_of u [] = []
kept_of u (frame ∷ stack) = kept_by u frame.block (kept_of u stack)

-- the lines from the first of `all` to `rest` were read, in what the tables t grow to
abbrev pub Stood : Lines → Tables → Tables → List Frame → List ℕ → List ℕ → Lines → Type 0
Stood all u t stack places names rest = Standing all (opens_of u stack) (kept_of u stack) (statements_at u places) (length t.functions) (map (function_tree u) t.functions) (map (name_at u) names) rest

abbrev pub is_steps : OpenBlock → Bool
is_steps (block.Steps target lines) = true
is_steps _ = false

-- the innermost block is a steps block
abbrev pub is_in_steps : List Frame → Bool
is_in_steps [] = false
is_in_steps (frame ∷ stack) = is_steps frame.block

-- no step line begins with `try` or `if`
abbrev pub StandsOutside : OpenBlock → List Frame → Type 0
StandsOutside (block.Function head outer) stack = Unit {0}
StandsOutside (block.Steps target lines) stack = Unit {0}
StandsOutside _ stack = is_in_steps stack ≡ false

abbrev pub AllOutside : List Frame → Type 0
AllOutside [] = Unit {0}
AllOutside (frame ∷ stack) = StandsOutside frame.block stack × AllOutside stack

pub record StandsAt (all : Lines) (u : Tables) (b : Builder) (rest : Lines) : Type 0 where
  pub standing : Stood all u b.nodes (stack_of b) b.places.items b.names rest
  pub outside : AllOutside (stack_of b)

-- a line of these words was read
pub record LineRead (old new : Builder) (words : List Lexeme) : Type 0 where
  pub kinds : LineBreaks (kinds_of (stack_of old)) words None → kinds_of (stack_of new) ≡ blocks_after words (kinds_of (stack_of old))
  pub stands : LineBreaks (kinds_of (stack_of old)) words None → (all rest : Lines) (u : Tables) → Grown new.nodes u → StandsAt all u old (words ∷ rest) → StandsAt all u new rest
