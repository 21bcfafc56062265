use Rattle.std.proofs.Common.{◌≡◌, ◌≤◌, drop, length, []}
use Rattle.widl_overload.specs.sets.Index.{terms_of_length}
use Rattle.widl_overload.proofs.index.end_of_run.Given as goal

abbrev pub invariant-loop-end : goal.invariant-loop-end
invariant-loop-end l = (l.end ≤ length l.tuples) × (terms_of_length l.m (drop l.end l.tuples) ≡ [])

abbrev pub decreases-loop-end : goal.decreases-loop-end
decreases-loop-end l = l.end
