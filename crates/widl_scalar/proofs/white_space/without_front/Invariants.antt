use Rattle.std.proofs.Common.{◌≡◌, length}
use Rattle.widl_scalar.specs.WhiteSpace.{without_front}
use Rattle.widl_scalar.proofs.white_space.without_front.Given as goal

abbrev pub invariant-loop-rest : goal.invariant-loop-rest
invariant-loop-rest l = without_front l.rest ≡ without_front l.text

abbrev pub decreases-loop-rest : goal.decreases-loop-rest
decreases-loop-rest l = length l.rest
