use Rattle.std.proofs.Common.{◌≡◌, ◌≤◌, take, length}
use Rattle.widl_overload.specs.sets.Index.{terms_of_length}
use Rattle.widl_overload.proofs.index.are_several.Given as goal

abbrev pub invariant-loop-tuple : goal.invariant-loop-tuple
invariant-loop-tuple l = (l.count ≡ length (terms_of_length l.m (take l.tuple-index l.tuples))) × (l.count ≤ l.tuple-index)
