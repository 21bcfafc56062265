use Rattle.std.proofs.Common.{◌+◌, ◌≤◌, subst, sym, arith}
use Rattle.widl_script_tree.specs.Tables.{Tables}
use Rattle.widl_script_tree.specs.Rows.{most_nodes}
use Rattle.widl_script_reader.specs.Room.{entries}
use Rattle.widl_script_reader.proofs.Room.{puts_at_most, each_fits, expression_entries}
use Rattle.widl_script_reader.proofs.nodes.Nodes.put.Goals as goal

pub put_expression-requires-clause-room : goal.put_expression-requires-clause-room
put_expression-requires-clause-room c =
    let fits = (each_fits _ (1) (subst (λ (t : Tables). entries t + 1 ≤ most_nodes) (sym c.self.view_is) c.requires.room)).0 in
    omega (arith, fits)

pub returns-clause-one : goal.returns-clause-one
returns-clause-one c = subst (λ (t : Tables). entries c.put_expression.new.self ≤ entries t + 1) c.self.view_is (puts_at_most c.put_expression.result (1) _ _ _ (expression_entries _ _) c.put_expression.ensures.tables c.put_expression.ensures.err)
