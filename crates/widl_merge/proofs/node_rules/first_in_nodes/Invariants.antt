use Rattle.std.proofs.Common.{take}
use Rattle.widl_idl.specs.PlainTrees.{plain_definitions}
use Rattle.widl_names.specs.Listings.{nodes_listed}
use Rattle.widl_merge.specs.NodeRules.{AreFirst}
use Rattle.widl_merge.proofs.node_rules.first_in_nodes.Given as goal

abbrev pub invariant-loop-node : goal.invariant-loop-node
invariant-loop-node l = AreFirst (plain_definitions l.meanings) (take l.node-index (nodes_listed l.nodes)) l.best
