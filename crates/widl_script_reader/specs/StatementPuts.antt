-- For proofs alone. What is put into the tables of statements, functions and steps blocks.
use Rattle.std.specs.Prelude.{◌≡◌, ℕ, ◌+◌, ◌<◌, ◌≤◌, List, [], ◌∷◌, ◌++◌, length, All, Some, slice_get}
use Rattle.widl_script_tree.specs.declared.row.Row.{Row}
use Rattle.widl_script_tree.specs.declared.statement.Statement.{Statement}
use Rattle.widl_script_tree.specs.declared.function.Function.{Function}
use Rattle.widl_script_tree.specs.declared.steps.StepsBlock.{StepsBlock}
use Rattle.widl_script_tree.specs.Trees.{StatementTrees, no_statements, then_more}
use Rattle.widl_script_tree.specs.Tables.{Tables, statement_tree, statements_tree, opened_statement}
use Rattle.widl_script_tree.specs.Parts.{IsLowerRow}
use Rattle.widl_script_tree.specs.Growth.{Grown}

-- the statements at these places
abbrev pub statements_at : Tables → List ℕ → StatementTrees
statements_at u [] = no_statements
statements_at u (place ∷ places) = then_more (statement_tree u place) (statements_at u places)

abbrev pub AllStatements : Tables → List ℕ → Type 0
AllStatements t places = All (λ place. place < length t.statements) places

pub record IsStatementPut (s : Statement) (place : ℕ) (old new : Tables) : Type 0 where
  pub grown : Grown old new
  pub functions : new.functions ≡ old.functions
  pub names : new.names ≡ old.names
  pub within : place < length new.statements
  pub tree : (u : Tables) → Grown new u → statement_tree u place ≡ opened_statement u (statement_tree u) s

pub record IsStatementRow (row : Row) (places : List ℕ) (old new : Tables) : Type 0 where
  pub grown : Grown old new
  pub functions : new.functions ≡ old.functions
  pub names : new.names ≡ old.names
  pub lower : IsLowerRow (length new.statements) row
  pub trees : (u : Tables) → Grown new u → statements_tree u row ≡ statements_at u places

pub record IsFunctionPut (f : Function) (number : ℕ) (old new : Tables) : Type 0 where
  pub grown : Grown old new
  pub number_is : number ≡ length old.functions
  pub functions : new.functions ≡ old.functions ++ f ∷ []
  pub names : new.names ≡ old.names
  pub statements : new.statements ≡ old.statements

pub record IsBlockPut (b : StepsBlock) (number : ℕ) (old new : Tables) : Type 0 where
  pub grown : Grown old new
  pub within : number < length new.blocks
  pub held : slice_get new.blocks number ≡ Some b
  pub functions : new.functions ≡ old.functions
  pub names : new.names ≡ old.names
