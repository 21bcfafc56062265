use Rattle.widl_graph.specs.Search.{AreMoved}
use Rattle.widl_graph.proofs.search.close_visits.Given as goal

abbrev pub invariant-loop-place : goal.invariant-loop-place
invariant-loop-place l = AreMoved l.visits.items l.base l.place l.mark l.fn.marks.items l.marks.items l.fn.order.items l.order.items
