use Rattle.std.proofs.Common.{◌≡◌, length}
use Rattle.std.specs.Prelude.{reverse}
use Rattle.widl_scalar.specs.WhiteSpace.{without_front}
use Rattle.widl_scalar.proofs.white_space.without_end.Given as goal

abbrev pub invariant-loop-unit : goal.invariant-loop-unit
invariant-loop-unit l = without_front (reverse l.rest) ≡ without_front (reverse l.text)

abbrev pub decreases-loop-unit : goal.decreases-loop-unit
decreases-loop-unit l = length l.rest
