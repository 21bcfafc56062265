use Rattle.std.proofs.Common.{◌≡◌, map, nat_lt, take}
use Rattle.widl_inheritance.proofs.long_chains.long_flags.Given as goal

abbrev pub invariant-loop-longest : goal.invariant-loop-longest
invariant-loop-longest l = l.flags.items ≡ map (λ n. nat_lt 256 n) (take l.longest-index l.lengths)
