use Rattle.std.proofs.Common.{◌<◌, List, length, subst, sym}
use Rattle.widl_script_tree.specs.declared.statement.Statement.{Statement}
use Rattle.widl_script_tree.specs.Rows.{most_nodes}
use Rattle.widl_script_tree.specs.Tables.{Tables}
use Rattle.widl_script_tree.specs.Parts.{IsLowerStatement, IsWhole}
use Rattle.widl_script_tree.specs.Made.{tables_of}
use Rattle.widl_script_tree.proofs.Wholes.{whole_with_statement}
use Rattle.widl_script_tree.proofs.tables.ScriptTables.put_statement.Goals as goal

pub invariant_of-self-2 : goal.invariant_of-self-2
invariant_of-self-2 c =
    let old : Tables = tables_of c.self.inside in
    let lower = subst (λ (t : Tables). IsLowerStatement t (length t.statements) c.args.node) (sym c.self.view_is) c.requires.lower in
    let room = subst (λ (t : Tables). length t.statements < most_nodes) (sym c.self.view_is) c.requires.room in
    record {
      whole = subst (λ (items : List Statement). IsWhole (record old { statements = items })) (sym c.in_ok-push.ensures.items) (whole_with_statement old c.self.invariant.whole c.args.node lower room);
      expression = c.self.invariant.expression;
      statement = c.self.invariant.statement;
      function = c.self.invariant.function;
      name = c.self.invariant.name;
    }
