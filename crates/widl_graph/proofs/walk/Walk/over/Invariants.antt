use Rattle.std.proofs.Common.{◌≡◌, ℕ, ◌≤◌, [], slice_get, Some}
use Rattle.widl_graph.specs.declared.search.Mark.TheVariants.{New}
use Rattle.widl_graph.specs.Search.{UnderWay}
use Rattle.widl_graph.proofs.walk.Walk.over.Given as goal

abbrev pub invariant-loop-root : goal.invariant-loop-root
invariant-loop-root l = UnderWay l.graph l.search × (l.search.path.items ≡ []) × ((x : ℕ) → slice_get l.search.marks.items x ≡ Some New → l.root ≤ x)
