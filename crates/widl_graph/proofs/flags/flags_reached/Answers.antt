use Rattle.std.proofs.Common.{length, arith, ap, refl, ◌∙◌}
use Rattle.std.specs.List.{list_any}
use Rattle.widl_graph.specs.Flags.{reaches_by}
use Rattle.widl_graph.proofs.FlagSteps.{first_all, walked_next}
use Rattle.widl_graph.proofs.flags.flags_reached.Goals as goal

pub loop-node-preserved : goal.loop-node-preserved
loop-node-preserved c =
    walked_next c.args.graph.now c.args.walk.now c.args.flags.now c.loop-node.node-index c.loop-node.found.items _ c.reaches_by-flag.result
    c.as_slice-node-items.result.now c.as_slice.result.now c.requires.walk c.requires.acyclic
    c.as_slice-node-items.ensures.value c.as_slice.ensures.value c.loop-node-test.true
    (c.reaches_by-flag.ensures ∙ ap (list_any (reaches_by c.args.flags.now c.as_slice.result.now)) c.successors.ensures)
    refl c.loop-node.invariant

pub returns : goal.returns
returns c =
    let size = ap length c.as_slice-node-items.ensures.value in
    first_all c.args.graph.now c.args.flags.now c.args.walk.now.order.items c.loop-node.node-index c.loop-node.found.items c.requires.walk.order (omega (arith, size, c.loop-node-test.false)) c.loop-node.invariant
