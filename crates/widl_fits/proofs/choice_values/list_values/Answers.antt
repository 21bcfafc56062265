use Rattle.std.proofs.Common.{arith}
use Rattle.widl_fits.proofs.KeptValues.{kept_step}
use Rattle.widl_fits.proofs.choice_values.list_values.Goals as goal

pub loop-choice-preserved : goal.loop-choice-preserved
loop-choice-preserved c = kept_step c.loop-choice.sets.items c.push.new.self.items c.args.choices.now c.loop-choice.choice-index c.choice-item.result c.in_ok-set.set c.as_slice.result.now (omega arith) c.choice-item.is c.in_ok-push.ensures.items c.as_slice.ensures c.in_ok-set.ensures c.loop-choice.invariant
