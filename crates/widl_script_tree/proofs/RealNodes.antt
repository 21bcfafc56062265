-- Nodes that are no items.
use Rattle.std.proofs.Common.{◌≡◌, ℕ, refl}
use Rattle.widl_script_tree.specs.declared.expression.Expression.{Expression}
use Rattle.widl_script_tree.specs.declared.expression.Expression.TheVariants as node
use Rattle.widl_script_tree.specs.declared.statement.Statement.{Statement}
use Rattle.widl_script_tree.specs.declared.statement.Statement.TheVariants as line
use Rattle.widl_script_tree.specs.Real.{IsReal, IsRealStatement}

pub is_real : (e : Expression) → ((k : ℕ) → e ≡ node.Item k → ⊥) → IsReal e
is_real (node.Item k) is_not = is_not k refl
is_real _ is_not = tt

pub is_real_statement : (s : Statement) → ((k : ℕ) → s ≡ line.Item k → ⊥) → IsRealStatement s
is_real_statement (line.Item k) is_not = is_not k refl
is_real_statement _ is_not = tt
