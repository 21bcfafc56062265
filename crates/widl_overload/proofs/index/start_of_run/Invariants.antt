use Rattle.std.proofs.Common.{◌≡◌, take, []}
use Rattle.widl_overload.specs.sets.Index.{terms_of_length}
use Rattle.widl_overload.proofs.index.start_of_run.Given as goal

abbrev pub invariant-loop-place : goal.invariant-loop-place
invariant-loop-place l = terms_of_length l.m (take l.place l.tuples) ≡ []
