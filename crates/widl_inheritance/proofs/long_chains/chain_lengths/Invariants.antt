use Rattle.std.proofs.Common.{◌≡◌, length, map}
use Rattle.widl_idl.specs.DefinitionTerms.{dict_term}
use Rattle.widl_inheritance.specs.ChainLengths.{AreMeasured}
use Rattle.widl_inheritance.proofs.long_chains.chain_lengths.Given as goal

abbrev pub invariant-loop-node : goal.invariant-loop-node
invariant-loop-node l = record {
  size : length l.lengths.items ≡ length l.holdings.graph;
  known : AreMeasured (map dict_term l.dicts) l.holdings.walk.order.items l.node-index l.lengths.items;
}
