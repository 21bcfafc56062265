use Rattle.std.proofs.Common.{◌≡◌, ◌+◌, length, rules, arith, subst, sym, set}
use Rattle.std.proofs.lemmas.Option.{slice_get_within}
use Rattle.widl_graph.specs.declared.search.Mark.TheVariants.{Open}
use Rattle.widl_graph.specs.Search.{AreMoved}
use Rattle.widl_graph.proofs.Moving.{moved_more}
use Rattle.widl_graph.proofs.search.close_visits.Goals as goal

pub index_mut-requires : goal.index_mut-requires
index_mut-requires c =
    let h = c.requires.open c.loop-place.place c.visit_at-node.result c.visit_at-node.ensures in
    let l = slice_get_within c.args.marks.now.items c.visit_at-node.result.node (Open c.loop-place.place) h in
    let size : c.loop-place.marks.len ≡ length c.loop-place.marks.items = search rules in
    omega (arith, l, size, c.loop-place.invariant.size)

pub loop-place-preserved : goal.loop-place-preserved
loop-place-preserved c =
    let h = c.requires.open c.loop-place.place c.visit_at-node.result c.visit_at-node.ensures in
    subst (λ o. AreMoved c.args.visits.now.items c.args.base (c.loop-place.place + 1) c.args.mark c.args.marks.now.items (set c.loop-place.marks.items c.visit_at-node.result.node c.args.mark) c.args.order.now.items o) (sym c.in_ok-push.ensures.items)
    (moved_more _ _ _ _ _ _ _ _ c.visit_at-node.result c.loop-place.invariant c.visit_at-node.ensures c.loop-place.auto.place h c.requires.known)
