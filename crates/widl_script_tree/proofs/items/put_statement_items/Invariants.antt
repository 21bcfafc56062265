use Rattle.std.proofs.Common.{◌≡◌, ◌++◌, take}
use Rattle.std.specs.Prelude.{map}
use Rattle.widl_script_tree.specs.declared.statement.Statement.TheVariants as node
use Rattle.widl_script_tree.proofs.items.put_statement_items.Given as goal

abbrev pub invariant-row : goal.invariant-row
invariant-row l = l.nodes.items ≡ l.fn.nodes.items ++ map (λ place. node.Item place) (take l.place-index l.places)
