-- The tables that are being made.
use Rattle.std.specs.Prelude.{◌≡◌, []}
use Rattle.widl_script_tree.specs.declared.tables.ScriptTables.TheInside.{Inside}
use Rattle.widl_script_tree.specs.declared.expression.Expression.TheVariants as node
use Rattle.widl_script_tree.specs.Tables.{Tables, no_statement, no_function}
use Rattle.widl_script_tree.specs.Parts.{IsWhole}

abbrev pub tables_of : Inside → Tables
tables_of s = record { expressions = s.expressions.items; statements = s.statements.items; functions = s.functions.items; blocks = s.blocks.items; names = s.names.keys; owners = s.owners.entries; targets = s.targets.entries; top = s.top }

-- the tables are whole, and the defaults are those that stand past the ends
pub record IsMade (s : Inside) : Type 0 where
  pub whole : IsWhole (tables_of s)
  pub expression : s.default_expression ≡ node.Undefined
  pub statement : s.default_statement ≡ no_statement
  pub function : s.default_function ≡ no_function
  pub name : s.default_name ≡ []
