use Rattle.std.proofs.Common.{◌≡◌, ◌++◌, ◌∷◌, [], take}
use Rattle.widl_graph.proofs.graph.Graph.add_linked.Given as goal

abbrev pub invariant-loop-successor : goal.invariant-loop-successor
invariant-loop-successor l = l.self ≡ l.fn.self ++ take l.successor-index l.successors ∷ []
