use Rattle.std.proofs.Common.{arith, length-append, ℕ}
use Rattle.widl_graph.proofs.Parts.{Begins-more, lists_of-push}
use Rattle.widl_graph.proofs.graph.Graph.add_successor.Goals as goal

pub invariant_of-self-2 : goal.invariant_of-self-2
invariant_of-self-2 c = rw c.in_ok-push.ensures.items (Begins-more _ _ _ c.self.invariant (omega (arith, length-append {A = ℕ})))

pub returns-clause-added : goal.returns-clause-added
returns-clause-added c = rw (c.in_ok-push.ensures.items, ← c.self.view_is) (lists_of-push _ _ _ c.self.invariant)
