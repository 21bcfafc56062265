use Rattle.std.proofs.Common.{◌≡◌, ◌+◌, length}
use Rattle.std.specs.Prelude.{option_map}
use Rattle.widl_lines.specs.Words.{decimal_length}
use Rattle.widl_lines.proofs.shape.decimal_length.Given as goal

abbrev pub invariant-loop-rest : goal.invariant-loop-rest
invariant-loop-rest l = record {
  passed : l.passed + length l.rest ≡ length l.fn.text;
  value : decimal_length l.fn.text ≡ option_map (λ n. l.passed + n) (decimal_length l.rest);
}

abbrev pub decreases-loop-rest : goal.decreases-loop-rest
decreases-loop-rest l = length l.rest
