use Rattle.widl_graph.proofs.AllVisited.{AreVisited}
use Rattle.widl_graph.proofs.span_walk.walked.Given as goal

abbrev pub invariant-loop-number : goal.invariant-loop-number
invariant-loop-number l = AreVisited l.parents l.walk l.number
