use Rattle.std.proofs.Common.{◌≡◌, replicate, None}
use Rattle.widl_merge.proofs.nesting.no_depths.Given as goal

abbrev pub invariant-loop-i : goal.invariant-loop-i
invariant-loop-i l = l.depths.items ≡ replicate l._i None
