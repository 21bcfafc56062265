use Rattle.std.proofs.Common.{◌≡◌, subst, sym, ap, ◌∙◌}
use Rattle.widl_script_tree.specs.Tables.{Tables, expression_tree, opened}
use Rattle.widl_script_tree.specs.Parts.{IsLower}
use Rattle.widl_script_tree.proofs.RealNodes.{is_real}
use Rattle.widl_script_tree.proofs.script.Script.expression.Goals as goal

pub through-smaller : goal.through-smaller
through-smaller c = subst (IsLower c.args.self.now c.through.at) c.in-Item.is c.through.invariant.lower

pub through-preserved : goal.through-preserved
through-preserved c =
    let t : Tables = c.args.self.now in
    record {
      lower = subst (λ (u : Tables). IsLower u c.in-Item.lower c.expression-node-in-Item.result.now) c.self.view_is c.expression-node-in-Item.ensures.lower;
      opens = subst (λ (u : Tables). expression_tree u c.in-Item.lower ≡ opened u (expression_tree u) c.expression-node-in-Item.result.now) c.self.view_is c.expression-node-in-Item.ensures.tree;
      same = sym (c.through.invariant.opens ∙ ap (opened t (expression_tree t)) c.in-Item.is) ∙ c.through.invariant.same;
    }

pub returns-in_default : goal.returns-in_default
returns-in_default c = record {
  tree = sym c.through.invariant.same ∙ c.through.invariant.opens;
  real = is_real c.through.node.now c.in_default.not-Item;
}
