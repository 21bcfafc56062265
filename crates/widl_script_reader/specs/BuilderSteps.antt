-- For proofs alone. What the steps of the builder do.
use Rattle.std.specs.Prelude.{◌≡◌, ℕ, ◌+◌, ◌<◌, List, [], ◌∷◌, ◌++◌, length, map, nat_eq}
use Rattle.indexmap.specs.IndexSet.{insert_key}
use Rattle.widl_lines.specs.Words.{Lexeme}
use Rattle.widl_script_tree.specs.declared.row.Row.{Row}
use Rattle.widl_script_tree.specs.declared.statement.Statement.{Statement}
use Rattle.widl_script_tree.specs.declared.statement.Statement.TheVariants as statement
use Rattle.widl_script_tree.specs.declared.steps.Target.{Target}
use Rattle.widl_script_tree.specs.declared.steps.StepLine.{StepLine}
use Rattle.widl_script_tree.specs.Trees.{StatementTree, TryT, IfT, FunctionT, StepsT}
use Rattle.widl_script_tree.specs.Tables.{Tables, name_at, expression_tree, statement_tree, statements_tree, function_tree}
use Rattle.widl_script_tree.specs.Growth.{Grown}
use Rattle.widl_script_reader.specs.declared.frames.OpenBlock.{OpenBlock}
use Rattle.widl_script_reader.specs.declared.frames.OpenBlock.TheVariants as block
use Rattle.widl_script_reader.specs.declared.frames.Frame.{Frame}
use Rattle.widl_script_reader.specs.declared.frames.Builder.{Builder}
use Rattle.widl_script_reader.specs.declared.functions.FunctionHead.{FunctionHead}
use Rattle.widl_script_words.specs.Signs.{SpellsLine}
use Rattle.widl_script_words.specs.SpelledStatements.{Lines, end_signs}
use Rattle.widl_script_reader.specs.StatementPuts.{statements_at, IsStatementPut}
use Rattle.widl_script_reader.specs.Building.{Sound, stack_of, Stood, AllOutside, LineRead}

-- the names that a statement of one line leaves bound
abbrev pub bound_by : Statement → List ℕ → List ℕ
bound_by (statement.Let name value) names = insert_key nat_eq names name
bound_by _ names = names

-- a statement was put after those of the innermost list
pub record IsAdded (s : Statement) (old new : Builder) : Type 0 where
  pub place : ℕ
  pub put : IsStatementPut s place old.nodes new.nodes
  pub frames : new.frames.items ≡ old.frames.items
  pub places : new.places.items ≡ old.places.items ++ place ∷ []
  pub names : new.names ≡ old.names

-- a block with a list of its own was opened
pub record IsOpened (opened : OpenBlock) (old new : Builder) : Type 0 where
  pub frame : Frame
  pub block_is : frame.block ≡ opened
  pub before_is : frame.before.items ≡ old.places.items
  pub frames : new.frames.items ≡ old.frames.items ++ frame ∷ []
  pub places : new.places.items ≡ []
  pub names : new.names ≡ old.names
  pub nodes : new.nodes ≡ old.nodes

-- a block that was taken off the stack became a statement after those before it
pub record IsClosed (tree : Tables → StatementTree) (before : List ℕ) (old new : Builder) : Type 0 where
  pub place : ℕ
  pub grown : Grown old.nodes new.nodes
  pub functions : new.nodes.functions ≡ old.nodes.functions
  pub table_names : new.nodes.names ≡ old.nodes.names
  pub within : place < length new.nodes.statements
  pub is : (u : Tables) → Grown new.nodes u → statement_tree u place ≡ tree u
  pub frames : new.frames.items ≡ old.frames.items
  pub places : new.places.items ≡ before ++ place ∷ []
  pub names : new.names ≡ old.names

abbrev pub tried_tree : Row → ℕ → List ℕ → Tables → StatementTree
tried_tree body name handler u = TryT (statements_tree u body) (name_at u name) (statements_at u handler)

abbrev pub then_tree : ℕ → ℕ → List ℕ → Tables → StatementTree
then_tree left right met u = IfT (expression_tree u left) (expression_tree u right) (statements_at u met) (statements_at u [])

abbrev pub else_tree : ℕ → ℕ → Row → List ℕ → Tables → StatementTree
else_tree left right met unmet u = IfT (expression_tree u left) (expression_tree u right) (statements_tree u met) (statements_at u unmet)

abbrev pub steps_tree : Target → List StepLine → Tables → StatementTree
steps_tree target lines u = StepsT target lines

-- the same of a function, which has the names that were bound in it
pub record IsFunctionClosed (head : FunctionHead) (outer before : List ℕ) (old new : Builder) : Type 0 where
  pub place : ℕ
  pub grown : Grown old.nodes new.nodes
  pub count : length new.nodes.functions ≡ length old.nodes.functions + 1
  pub functions : (u : Tables) → Grown new.nodes u → map (function_tree u) new.nodes.functions ≡ map (function_tree u) old.nodes.functions ++ record { name = name_at u head.name; params = map (name_at u) head.params; names = map (name_at u) old.names; body = statements_at u old.places.items } ∷ []
  pub table_names : new.nodes.names ≡ old.nodes.names
  pub within : place < length new.nodes.statements
  pub is : (u : Tables) → Grown new.nodes u → statement_tree u place ≡ FunctionT (length old.nodes.functions) (name_at u head.name) (map (name_at u) head.params) (statements_at u old.places.items)
  pub frames : new.frames.items ≡ old.frames.items
  pub places : new.places.items ≡ before ++ place ∷ []
  pub names : new.names ≡ outer

-- the block of a frame that was taken off the stack was closed
pub record FrameClosed (frame : Frame) (old new : Builder) : Type 0 where
  pub sound : Sound new
  pub grown : Grown old.nodes new.nodes
  pub frames : new.frames.items ≡ old.frames.items
  pub stands : (frame.block ≡ block.Try → ⊥) → (all : Lines) (words : List Lexeme) (rest : Lines) (u : Tables) → Grown new.nodes u → SpellsLine end_signs words → AllOutside (frame ∷ stack_of old) → Stood all u old.nodes (frame ∷ stack_of old) old.places.items old.names (words ∷ rest) → Stood all u new.nodes (stack_of new) new.places.items new.names rest

-- a line of these words was read
pub record IsDone (old new : Builder) (words : List Lexeme) : Type 0 where
  pub sound : Sound new
  pub grown : Grown old.nodes new.nodes
  pub read : LineRead old new words

-- the block of a `try` after its `catch`, and of an `if` after its `else`; of any other block itself
abbrev pub with_catch : OpenBlock → Row → ℕ → OpenBlock
with_catch block.Try body name = block.Catch body name
with_catch b body name = b

abbrev pub with_else : OpenBlock → Row → OpenBlock
with_else (block.Then left right) met = block.Else left right met
with_else b met = b

-- a step line was put at the end of a steps block
abbrev pub StepAdded : StepLine → OpenBlock → OpenBlock → Type 0
StepAdded step (block.Steps target lines) new = new ≡ block.Steps target (lines ++ step ∷ [])
StepAdded step b new = new ≡ b
