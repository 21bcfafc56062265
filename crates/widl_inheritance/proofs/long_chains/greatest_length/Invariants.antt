use Rattle.std.proofs.Common.{◌≡◌, take}
use Rattle.widl_inheritance.specs.ChainLengths.{greatest_length}
use Rattle.widl_inheritance.proofs.long_chains.greatest_length.Given as goal

abbrev pub invariant-loop-node : goal.invariant-loop-node
invariant-loop-node l = l.greatest ≡ greatest_length l.lengths (take l.node-index l.nodes)
