use Rattle.std.proofs.Common.{◌+◌, None, get_or, arith, refl, sym, subst, ◌∙◌}
use Rattle.widl_graph.specs.declared.span_walk.SpanWalk.{SpanWalk}
use Rattle.widl_graph.proofs.SpansFound.{found_spans}
use Rattle.widl_graph.proofs.AllVisited.{AreVisited, all_spanned, has_one, lacks_one, visited_more}
use Rattle.widl_graph.proofs.ChildrenTaken.{parent_read}
use Rattle.widl_graph.proofs.span_walk.walked.Goals as goal
use Rattle.widl_graph.proofs.span_walk.walked.Goals.{then-is_none+in_ok-visit_all, else-is_none}

pub visit_all-requires-clause-root : goal.visit_all-requires-clause-root
visit_all-requires-clause-root c =
    let parents = c.args.parents.now in
    let number = c.loop-number.number in
    parent_read parents number None c.loop-number-test.true (lacks_one (get_or parents number None) c.is_none.result c.is_none.ensures c.if-is_none.true)

pub loop-number-preserved : goal.loop-number-preserved
loop-number-preserved c =
    let parents = c.args.parents.now in
    let number = c.loop-number.number in
    let walk = c.loop-number.walk in
    let now = c.loop-number.invariant in
    let own = parent_read parents number (get_or parents number None) c.loop-number-test.true refl in
    elim c.if-is_none.branch [
      | then-is_none+in_ok-visit_all w ↦
          let visited = w.in_ok-visit_all.ensures in
          subst (λ (later : SpanWalk). AreVisited parents later (number + 1)) (sym w.walk-is) (visited_more parents walk w.visit_all.new.self number visited.under_way visited.idle visited.kept (λ _. visited.root) now)
      | else-is_none w ↦
          subst (λ (later : SpanWalk). AreVisited parents later (number + 1)) (sym w.walk-is) (visited_more parents walk walk number now.under_way now.idle (λ n h. h) (λ none. absurd (has_one (get_or parents number None) c.is_none.result c.is_none.ensures w.if-is_none.false (sym own ∙ none))) now)
    ]

pub returns-clause-spans : goal.returns-clause-spans
returns-clause-spans c = found_spans c.args.parents.now c.loop-number.walk.spans.items c.loop-number.walk.order.items c.loop-number.walk.path.items c.loop-number.invariant.under_way.visits

pub returns-clause-whole : goal.returns-clause-whole
returns-clause-whole c =
    let walk = c.loop-number.walk in
    let now = c.loop-number.invariant in
    all_spanned c.args.parents.now walk.spans.items walk.order.items walk.path.items walk.children c.requires now.under_way.visits.size now.under_way.visits.in_order now.under_way.left now.idle (λ n below. now.roots n (omega (arith, below)))
