use Rattle.std.proofs.Common.{◌≡◌, ℕ, ◌<◌, ◌≤◌, length, slice_get, Some}
use Rattle.widl_graph.proofs.search.groups_up_to.Given as goal

abbrev pub invariant-loop-count : goal.invariant-loop-count
invariant-loop-count l = (l.count ≤ length l.groups) × ((i b : ℕ) → slice_get l.groups i ≡ Some b → l.count ≤ i → l.place < b)

abbrev pub decreases-loop-count : goal.decreases-loop-count
decreases-loop-count l = l.count
