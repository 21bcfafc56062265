use Rattle.std.proofs.Common.{length}
use Rattle.widl_scalar.proofs.TenScales.{Counted}
use Rattle.widl_scalar.proofs.decimal_scale.capped_number.Given as goal

abbrev pub invariant-loop-rest : goal.invariant-loop-rest
invariant-loop-rest l = Counted l.digits l.rest l.number

abbrev pub decreases-loop-rest : goal.decreases-loop-rest
decreases-loop-rest l = length l.rest
