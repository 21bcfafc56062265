use Rattle.std.proofs.Common.{sym, ap, subst, ◌∙◌}
use Rattle.widl_script_tree.specs.Tables.{Tables, statement_tree, opened_statement}
use Rattle.widl_script_tree.specs.Parts.{IsLowerStatement, IsLowerItem, IsWhole}
use Rattle.widl_script_tree.proofs.Growing.{statement_opens, item_read}
use Rattle.widl_script_tree.proofs.tables.ScriptTables.statement.Goals as goal

pub returns : goal.returns
returns c =
    let t : Tables = c.args.self.now in
    let whole : IsWhole t = c.is_whole.ensures in
    record {
      node = c.statement_here.ensures;
      lower = λ lt. subst (IsLowerStatement t c.args.place) (sym c.statement_here.ensures) (whole.lower_statements c.args.place lt);
      item = subst (IsLowerItem c.args.place) (sym c.statement_here.ensures) (item_read t whole c.args.place);
      tree = statement_opens t whole c.args.place ∙ ap (opened_statement t (statement_tree t)) (sym c.statement_here.ensures);
    }
