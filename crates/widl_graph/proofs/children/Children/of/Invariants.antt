use Rattle.widl_graph.specs.Children.{AreChildren}
use Rattle.widl_graph.proofs.children.Children.of.Given as goal

abbrev pub invariant-loop-number : goal.invariant-loop-number
invariant-loop-number l = AreChildren l.parents l.number l.children
