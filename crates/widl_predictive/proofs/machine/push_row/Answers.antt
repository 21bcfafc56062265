use Rattle.std.proofs.Common.{arith, ap, ◌∙◌}
use Rattle.widl_predictive.specs.Grammar.{at_level}
use Rattle.widl_predictive.proofs.Steps.{pushed}
use Rattle.widl_predictive.proofs.machine.push_row.Goals as goal

pub loop-left-preserved : goal.loop-left-preserved
loop-left-preserved g c = record {
  in_range = omega arith;
  room = omega (arith, c.push_reserved.ensures.len, c.push_reserved.ensures.capacity, c.loop-left.invariant.room, c.loop-left-test.true);
  pushed = pushed g.R.Rule.grammar c.args.level c.args.row.now c.loop-left.left c.loop-left.stack.items _ _ _ _ (omega arith) c.loop-left.invariant.in_range c.loop-left.invariant.pushed (c.frame_of.ensures ∙ ap (at_level g.R.Rule.grammar c.args.level) c.index-row-left.is) c.push_reserved.ensures.items;
}
