-- The laws of scripts: what each place stands for, and what tables that grow keep.
use Rattle.std.specs.Prelude.{◌≡◌, ℕ, ◌<◌, length}
use Rattle.widl_script_tree.specs.declared.row.Row.{Row}
use Rattle.widl_script_tree.specs.Rows.{rest_of}
use Rattle.widl_script_tree.specs.Trees.{none, more, no_statements, then_more}
use Rattle.widl_script_tree.specs.Tables.{Tables, expression_at, statement_at, name_at, opened, opened_statement, expression_tree, statement_tree, expressions_tree, statements_tree}
use Rattle.widl_script_tree.specs.Growth.{Grown}

-- the tree at each place is what its node says of the trees at the places that it names
abbrev pub ExpressionsOpen : Tables → Type 0
ExpressionsOpen t = (place : ℕ) → expression_tree t place ≡ opened t (expression_tree t) (expression_at t place)

abbrev pub StatementsOpen : Tables → Type 0
StatementsOpen t = (place : ℕ) → statement_tree t place ≡ opened_statement t (statement_tree t) (statement_at t place)

-- the trees of each row are the first one and those of the rest
pub record RowsOpen (t : Tables) : Type 0 where
  pub empty : (row : Row) → row.count ≡ 0 → expressions_tree t row ≡ none
  pub first : (row : Row) → 0 < row.count → expressions_tree t row ≡ more (expression_tree t row.first) (expressions_tree t (rest_of row))
  pub no_statement : (row : Row) → row.count ≡ 0 → statements_tree t row ≡ no_statements
  pub first_statement : (row : Row) → 0 < row.count → statements_tree t row ≡ then_more (statement_tree t row.first) (statements_tree t (rest_of row))

-- whatever the tables grow to has the same trees at the places of these
pub record KeepsTrees (t : Tables) : Type 0 where
  pub expressions : (u : Tables) → Grown t u → (place : ℕ) → place < length t.expressions → expression_tree u place ≡ expression_tree t place
  pub statements : (u : Tables) → Grown t u → (place : ℕ) → place < length t.statements → statement_tree u place ≡ statement_tree t place
  pub names : (u : Tables) → Grown t u → (number : ℕ) → number < length t.names → name_at u number ≡ name_at t number
