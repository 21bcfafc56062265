use Rattle.std.proofs.Common.{map}
use Rattle.widl_lines.specs.WordTerms.{lexeme_of}
use Rattle.widl_lines.specs.Breaks.{NoneLarge}
use Rattle.widl_lines.proofs.line_break.first_large.Given as goal

abbrev pub invariant-loop-place : goal.invariant-loop-place
invariant-loop-place l = NoneLarge (map lexeme_of l.words) l.place
