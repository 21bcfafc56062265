use Rattle.std.proofs.Common.{◌^◌, ◌-◌}
use Rattle.widl_scalar.proofs.DecimalMultiples.{Tenth}
use Rattle.widl_scalar.proofs.shortest_digits.ten_step.Given as goal

abbrev pub invariant-loop-step : goal.invariant-loop-step
invariant-loop-step l = Tenth l.x l.limit l.step

abbrev pub decreases-loop-step : goal.decreases-loop-step
decreases-loop-step l = 10 ^ 20 - l.step
