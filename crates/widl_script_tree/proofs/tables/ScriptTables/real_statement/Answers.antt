use Rattle.std.proofs.Common.{◌≡◌, subst, sym, ap, ◌∙◌}
use Rattle.widl_script_tree.specs.Tables.{Tables, statement_tree, opened_statement}
use Rattle.widl_script_tree.specs.Parts.{IsLowerItem}
use Rattle.widl_script_tree.proofs.RealNodes.{is_real_statement}
use Rattle.widl_script_tree.proofs.tables.ScriptTables.real_statement.Goals as goal

pub through-smaller : goal.through-smaller
through-smaller c = subst (IsLowerItem c.through.at) c.in-Item.is c.through.invariant.lower

pub through-preserved : goal.through-preserved
through-preserved c =
    let t : Tables = c.args.self.now in
    record {
      lower = c.statement-node-in-Item.ensures.item;
      opens = c.statement-node-in-Item.ensures.tree;
      same = sym (c.through.invariant.opens ∙ ap (opened_statement t (statement_tree t)) c.in-Item.is) ∙ c.through.invariant.same;
    }

pub returns-in_default : goal.returns-in_default
returns-in_default c = record {
  tree = sym c.through.invariant.same ∙ c.through.invariant.opens;
  real = is_real_statement c.through.node.now c.in_default.not-Item;
}
