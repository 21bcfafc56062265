use Rattle.std.proofs.Common.{◌≡◌, ◌+◌, ◌≤◌, [], ◌++◌, length, Option}
use Rattle.widl_lines.specs.declared.script_place.ScriptPlace.{ScriptPlace}
use Rattle.widl_lines.specs.LineTerms.{state_of}
use Rattle.widl_lines.specs.TextBreaks.{TextBreak, placed, script_lines}
use Rattle.widl_lines.proofs.Leaving.{left_lines, left_bytes}
use Rattle.widl_lines.proofs.reading.read_lines.Given as goal

abbrev pub invariant-loop-left : goal.invariant-loop-left
invariant-loop-left l = record {
  within : l.number + left_bytes l.left ≤ length l.text + 1;
  breaks : (p : Option ScriptPlace) → TextBreak l.reading.last (state_of l.reading).blocks (left_lines (l.number + 1) l.left) p → TextBreak 1 [] (script_lines l.text) p;
  placed_are : (state_of l.reading).lines ++ placed (state_of l.reading).blocks (left_lines (l.number + 1) l.left) ≡ placed [] (script_lines l.text);
}

abbrev pub decreases-loop-left : goal.decreases-loop-left
decreases-loop-left l = left_bytes l.left
