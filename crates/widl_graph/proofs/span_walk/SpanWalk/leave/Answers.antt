use Rattle.std.proofs.Common.{arith, length, Some, subst, ℕ, ◌≡◌}
use Rattle.widl_graph.specs.declared.spans.Span as declared
use Rattle.widl_graph.proofs.PathRooms.{visited_most}
use Rattle.widl_graph.proofs.SpansVisited.{left}
use Rattle.widl_graph.proofs.span_walk.SpanWalk.leave.Goals as goal

pub returns-in-Some-clause-walk : goal.returns-in-Some-clause-walk
returns-in-Some-clause-walk c =
    let walk = c.requires.walk in
    let spans = c.args.self.now.spans.items in
    let order = c.args.self.now.order.items in
    let here : c.len.result ≡ length order = omega arith in
    let size = walk.size in
    let most = visited_most spans order walk.in_order in
    left c.args.parents.now spans order c.args.self.now.path.items c.pop.new.self.items c.in-Some.number walk (omega (arith, most, size)) c.in-Some.ensures.items c.index.result.now c.ended.result c.index.ensures
    (subst (λ (place : ℕ). (s : declared.Span) → c.index.result.now ≡ Some s → c.ended.result ≡ Some (record { start = s.start; past = place })) here c.ended.ensures)
