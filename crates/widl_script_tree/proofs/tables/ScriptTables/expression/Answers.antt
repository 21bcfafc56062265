use Rattle.std.proofs.Common.{sym, ap, subst, ◌∙◌}
use Rattle.widl_script_tree.specs.Tables.{Tables, expression_tree, opened}
use Rattle.widl_script_tree.specs.Parts.{IsLower}
use Rattle.widl_script_tree.proofs.Growing.{expression_opens, lower_read}
use Rattle.widl_script_tree.proofs.tables.ScriptTables.expression.Goals as goal

pub returns : goal.returns
returns c =
    let t : Tables = c.args.self.now in
    record {
      node = c.expression_here.ensures;
      lower = subst (IsLower t c.args.place) (sym c.expression_here.ensures) (lower_read t c.is_whole.ensures c.args.place);
      tree = expression_opens t c.is_whole.ensures c.args.place ∙ ap (opened t (expression_tree t)) (sym c.expression_here.ensures);
    }
