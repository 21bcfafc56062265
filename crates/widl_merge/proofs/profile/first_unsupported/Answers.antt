use Rattle.std.proofs.Common.{arith}
use Rattle.widl_merge.proofs.Unsupported.{next_node, all_nodes}
use Rattle.widl_merge.proofs.profile.first_unsupported.Goals as goal

pub loop-node-preserved : goal.loop-node-preserved
loop-node-preserved c = next_node c.args.nodes.now c.loop-node.node-index c.node-item.result c.unsupported.result c.loop-node.best c.join_form-best.result (omega arith) c.node-item.is c.unsupported.ensures c.join_form-best.ensures c.loop-node.invariant

pub returns : goal.returns
returns c = all_nodes c.args.nodes.now c.loop-node.node-index c.loop-node.best (omega arith) c.loop-node.invariant
