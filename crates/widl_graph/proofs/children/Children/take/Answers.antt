use Rattle.std.proofs.Common.{◌<◌, List, ℕ, length, map, set, vec_items, arith, ap, subst}
use Rattle.std.proofs.lemmas.List.{length-map}
use Rattle.widl_graph.specs.Children.{IsTaken}
use Rattle.widl_graph.proofs.ChildrenTaken.{kept_taken}
use Rattle.widl_graph.proofs.children.Children.take.Goals as goal

pub returns : goal.returns
returns c =
    let lists = c.self.inside.lists.items in
    let below : c.args.parent < length lists = omega (arith, c.requires, ap length c.self.view_is, length-map lists vec_items) in
    subst (λ (old : List (List ℕ)). IsTaken old (map vec_items (set lists c.args.parent c.pop.new.self)) c.args.parent c.pop.result) c.self.view_is
    (kept_taken lists c.args.parent c.index_mut.result.now c.pop.new.self below c.index_mut.ensures.value c.pop.result c.pop.ensures.items c.pop.ensures.cases)
