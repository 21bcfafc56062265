use Rattle.std.proofs.Common.{◌<◌, ◌≤◌, ◌+◌, List, length, subst, sym}
use Rattle.std.specs.Prelude.{All}
use Rattle.widl_script_tree.specs.declared.statement.Statement.{Statement}
use Rattle.widl_script_tree.specs.Rows.{most_nodes}
use Rattle.widl_script_tree.specs.Tables.{Tables}
use Rattle.widl_script_tree.specs.Parts.{IsWhole}
use Rattle.widl_script_tree.specs.Made.{tables_of}
use Rattle.widl_script_tree.proofs.Wholes.{whole_with_statement_items}
use Rattle.widl_script_tree.proofs.tables.ScriptTables.put_statement_row.Goals as goal

pub invariant_of-self-2 : goal.invariant_of-self-2
invariant_of-self-2 c =
    let old : Tables = tables_of c.self.inside in
    let lower = subst (λ (t : Tables). All (λ place. place < length t.statements) c.args.places.now) (sym c.self.view_is) c.requires.lower in
    let room = subst (λ (t : Tables). length t.statements + length c.args.places.now ≤ most_nodes) (sym c.self.view_is) c.requires.room in
    record {
      whole = subst (λ (items : List Statement). IsWhole (record old { statements = items })) (sym c.in_ok-put_statement_items.ensures.ok) (whole_with_statement_items old c.self.invariant.whole c.args.places.now lower room);
      expression = c.self.invariant.expression;
      statement = c.self.invariant.statement;
      function = c.self.invariant.function;
      name = c.self.invariant.name;
    }
