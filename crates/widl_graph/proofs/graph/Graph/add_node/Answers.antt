use Rattle.std.proofs.Common.{◌≡◌, length, rules}
use Rattle.widl_graph.proofs.Parts.{Begins-push, lists_of-push_begin}
use Rattle.widl_graph.proofs.graph.Graph.add_node.Goals as goal

pub invariant_of-self-2 : goal.invariant_of-self-2
invariant_of-self-2 c =
    let begin : c.len-begin.result ≡ length c.self.inside.successors.items = search rules in
    rw (c.in_ok-push.ensures.items, begin) (Begins-push _ _ c.self.invariant)

pub returns-clause-added : goal.returns-clause-added
returns-clause-added c =
    let begin : c.len-begin.result ≡ length c.self.inside.successors.items = search rules in
    rw (c.in_ok-push.ensures.items, ← c.self.view_is, begin) (lists_of-push_begin _ _ c.self.invariant)
