use Rattle.std.proofs.Common.{◌-◌}
use Rattle.widl_value.proofs.ShortNumbers.{Half}
use Rattle.widl_value.proofs.rounding.step_of.Given as goal

abbrev pub invariant-loop-step : goal.invariant-loop-step
invariant-loop-step l = Half l.v l.step

abbrev pub decreases-loop-step : goal.decreases-loop-step
decreases-loop-step l = l.v - l.step
