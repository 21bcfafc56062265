use Rattle.std.proofs.Common.{◌≡◌, ◌+◌, length}
use Rattle.widl_lines.specs.Words.{run_length}
use Rattle.widl_lines.proofs.shape.run_length.Given as goal

abbrev pub invariant-loop-rest : goal.invariant-loop-rest
invariant-loop-rest l = run_length l.dashes l.fn.text + length l.rest ≡ run_length l.dashes l.rest + length l.fn.text

abbrev pub decreases-loop-rest : goal.decreases-loop-rest
decreases-loop-rest l = length l.rest
