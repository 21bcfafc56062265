use Rattle.std.proofs.Common.{List, ℕ, map, set, vec_items, arith, subst, ◌<◌, length}
use Rattle.widl_graph.specs.Children.{IsAdded}
use Rattle.widl_graph.proofs.ChildrenTaken.{kept_added}
use Rattle.widl_graph.proofs.children.Children.add.Goals as goal

pub returns-in_ok-push : goal.returns-in_ok-push
returns-in_ok-push c =
    let lists = c.self.inside.lists.items in
    let below : c.args.parent < length lists = omega arith in
    subst (λ (old : List (List ℕ)). IsAdded old (map vec_items (set lists c.args.parent c.push.new.self)) c.args.parent c.args.number) c.self.view_is
    (kept_added lists c.args.parent c.index_mut.result.now c.push.new.self below c.index_mut.ensures.value c.args.number c.in_ok-push.ensures.items)
