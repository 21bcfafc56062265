use Rattle.widl_inheritance.specs.HoldingGraph.{IsTypeGraph}
use Rattle.widl_inheritance.proofs.holding.type_graph.Given as goal

abbrev pub invariant-loop-number : goal.invariant-loop-number
invariant-loop-number l = IsTypeGraph l.count l.number l.graph
