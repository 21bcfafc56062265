use Rattle.widl_graph.specs.Search.{UnderWay, StaysKnown, work_of}
use Rattle.widl_graph.proofs.search.Search.finish.Given as goal

abbrev pub invariant-loop-place : goal.invariant-loop-place
invariant-loop-place l = UnderWay l.graph l.self × StaysKnown l.fn.self.marks.items l.self.marks.items

abbrev pub decreases-loop-place : goal.decreases-loop-place
decreases-loop-place l = work_of l.self
