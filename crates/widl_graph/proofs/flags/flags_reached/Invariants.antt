use Rattle.widl_graph.proofs.FlagSteps.{TellsFirst}
use Rattle.widl_graph.proofs.flags.flags_reached.Given as goal

abbrev pub invariant-loop-node : goal.invariant-loop-node
invariant-loop-node l = TellsFirst l.fn.graph l.flags l.walk.order.items l.node-index l.found.items
