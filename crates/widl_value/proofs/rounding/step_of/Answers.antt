use Rattle.std.proofs.Common.{arith}
use Rattle.widl_value.proofs.ShortNumbers.{half_next}
use Rattle.widl_value.proofs.rounding.step_of.Goals as goal

pub loop-step-preserved : goal.loop-step-preserved
loop-step-preserved c = half_next _ _ c.loop-step.invariant (let t = c.loop-step-test.true in omega (arith, t))
