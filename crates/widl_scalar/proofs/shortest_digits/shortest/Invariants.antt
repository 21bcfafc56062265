use Rattle.std.proofs.Common.{◌^◌, ◌-◌}
use Rattle.widl_scalar.proofs.DecimalMultiples.{Digit}
use Rattle.widl_scalar.proofs.ShortestWords.{Reached}
use Rattle.widl_scalar.proofs.shortest_digits.shortest.Given as goal

abbrev pub invariant-loop-w : goal.invariant-loop-w
invariant-loop-w l = (digit : Digit l.x l.limit) × Reached l.x digit.n

abbrev pub decreases-loop-w : goal.decreases-loop-w
decreases-loop-w l = 10 ^ 20 - l.limit
