use Rattle.std.proofs.Common.{◌≡◌, slice_get}
use Rattle.widl_graph.specs.Search.{UnderWay, left_of}
use Rattle.widl_graph.proofs.search.Search.next_new.Given as goal

abbrev pub invariant-loop-target : goal.invariant-loop-target
invariant-loop-target l = UnderWay l.graph l.self × (l.self.marks.items ≡ l.fn.self.marks.items) × (l.self.path.items ≡ l.fn.self.path.items)

abbrev pub decreases-loop-target : goal.decreases-loop-target
decreases-loop-target l = left_of l.graph (slice_get l.self.visits.items l.place)
