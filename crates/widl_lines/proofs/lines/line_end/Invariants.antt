use Rattle.widl_lines.specs.Lines.{NoLineEnd}
use Rattle.widl_lines.proofs.lines.line_end.Given as goal

abbrev pub invariant-loop-place : goal.invariant-loop-place
invariant-loop-place l = NoLineEnd l.text l.place
