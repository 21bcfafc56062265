-- Nodes that say something themselves: all but items.
use Rattle.widl_script_tree.specs.declared.expression.Expression.{Expression}
use Rattle.widl_script_tree.specs.declared.expression.Expression.TheVariants as node
use Rattle.widl_script_tree.specs.declared.statement.Statement.{Statement}
use Rattle.widl_script_tree.specs.declared.statement.Statement.TheVariants as line

abbrev pub IsReal : Expression → Type 0
IsReal (node.Item place) = ⊥
IsReal _ = Unit {0}

abbrev pub IsRealStatement : Statement → Type 0
IsRealStatement (line.Item place) = ⊥
IsRealStatement _ = Unit {0}
