use Rattle.std.proofs.Common.{arith, rules}
use Rattle.widl_inheritance.proofs.LongestChains.{greatest_all, greatest_more}
use Rattle.widl_inheritance.proofs.long_chains.greatest_length.Goals as goal

pub loop-node-preserved : goal.loop-node-preserved
loop-node-preserved c = greatest_more c.args.lengths.now c.args.nodes.now c.loop-node.node-index _ c.loop-node.greatest c.length_at.result c.max-greatest.result (omega arith) (search rules) c.length_at.ensures (search rules) c.loop-node.invariant

pub returns : goal.returns
returns c = greatest_all c.args.lengths.now c.args.nodes.now c.loop-node.node-index c.loop-node.greatest (omega arith) c.loop-node.invariant
