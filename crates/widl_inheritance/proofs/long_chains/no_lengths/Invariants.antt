use Rattle.std.proofs.Common.{◌≡◌, replicate}
use Rattle.widl_inheritance.proofs.long_chains.no_lengths.Given as goal

abbrev pub invariant-loop-i : goal.invariant-loop-i
invariant-loop-i l = l.lengths.items ≡ replicate l._i 0
