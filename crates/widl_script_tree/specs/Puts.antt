-- What each call of the tables puts.
use Rattle.std.specs.Prelude.{ℕ, List, [], ◌∷◌, ◌++◌, map, bytes_eq}
use Rattle.indexmap.specs.IndexSet.{insert_key}
use Rattle.widl_idl.specs.declared.callee.Owner.{Owner}
use Rattle.widl_script_tree.specs.declared.row.Row.{Row}
use Rattle.widl_script_tree.specs.declared.expression.Expression.{Expression}
use Rattle.widl_script_tree.specs.declared.expression.Expression.TheVariants as node
use Rattle.widl_script_tree.specs.declared.statement.Statement.{Statement}
use Rattle.widl_script_tree.specs.declared.statement.Statement.TheVariants as line
use Rattle.widl_script_tree.specs.declared.function.Function.{Function}
use Rattle.widl_script_tree.specs.declared.steps.StepsBlock.{StepsBlock}
use Rattle.widl_script_tree.specs.Rows.{no_row}
use Rattle.widl_script_tree.specs.Tables.{CalleeOverload, Tables}

abbrev pub no_tables : Tables
no_tables = record { expressions = []; statements = []; functions = []; blocks = []; names = []; owners = []; targets = []; top = no_row }

abbrev pub with_expression : Tables → Expression → Tables
with_expression t node = record t { expressions = t.expressions ++ node ∷ [] }

abbrev pub with_statement : Tables → Statement → Tables
with_statement t node = record t { statements = t.statements ++ node ∷ [] }

-- a row: an item for each place
abbrev pub with_items : Tables → List ℕ → Tables
with_items t places = record t { expressions = t.expressions ++ map (λ place. node.Item place) places }

abbrev pub with_statement_items : Tables → List ℕ → Tables
with_statement_items t places = record t { statements = t.statements ++ map (λ place. line.Item place) places }

abbrev pub with_function : Tables → Function → Tables
with_function t function = record t { functions = t.functions ++ function ∷ [] }

abbrev pub with_block : Tables → StepsBlock → Tables
with_block t block = record t { blocks = t.blocks ++ block ∷ [] }

-- a name that is there stays where it is
abbrev pub with_name : Tables → List ℕ → Tables
with_name t text = record t { names = insert_key bytes_eq t.names text }

-- a script: the tables with the statements outside functions, the owners of names and the blocks for callees
abbrev pub finished : Tables → Row → List (ℕ × Owner) → List (CalleeOverload × ℕ) → Tables
finished t top owners targets = record t { owners = owners; targets = targets; top = top }
