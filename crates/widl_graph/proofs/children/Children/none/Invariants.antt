use Rattle.std.proofs.Common.{◌≡◌, [], map, replicate, vec_items}
use Rattle.widl_graph.proofs.children.Children.none.Given as goal

abbrev pub invariant-loop-number : goal.invariant-loop-number
invariant-loop-number l = map vec_items l.lists.items ≡ replicate l._number []
