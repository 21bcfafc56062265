use Rattle.std.proofs.Common.{take, arith, rules}
use Rattle.widl_graph.proofs.Building.{has_last, successor_more, successors_all}
use Rattle.widl_graph.proofs.graph.Graph.add_linked.Goals as goal

pub add_successor-requires : goal.add_successor-requires
add_successor-requires c = has_last c.args.self.now (take c.loop-successor.successor-index c.args.successors.now) c.loop-successor.self c.loop-successor.invariant

pub loop-successor-preserved : goal.loop-successor-preserved
loop-successor-preserved c = successor_more c.args.self.now c.args.successors.now c.loop-successor.successor-index _ c.loop-successor.self c.add_successor.new.self (omega arith) (search rules) c.in_ok-add_successor.ensures.added c.loop-successor.invariant

pub returns : goal.returns
returns c = successors_all c.args.self.now c.args.successors.now c.loop-successor.successor-index c.loop-successor.self (omega arith) c.loop-successor.invariant
