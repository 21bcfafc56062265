use Rattle.std.proofs.Common.{◌+◌, ◌*◌, ◌≤◌, length}
use Rattle.std.specs.Prelude.{map}
use Rattle.widl_lines.specs.LineTerms.{line_of}
use Rattle.widl_lines.specs.TextBreaks.{words_and_lines}
use Rattle.widl_script_tree.specs.Rows.{most_nodes}
use Rattle.widl_script_reader.specs.ReadScript.{ReadTo}
use Rattle.widl_script_reader.specs.Room.{weight}
use Rattle.widl_script_reader.proofs.script.build.Given as goal

abbrev pub invariant-lines : goal.invariant-lines
invariant-lines l = record {
  read : ReadTo l.words l.builder (map line_of l.rest);
  room : weight l.builder + 4 * words_and_lines (map line_of l.rest) ≤ most_nodes;
}

abbrev pub decreases-lines : goal.decreases-lines
decreases-lines l = length l.rest
