use Rattle.std.proofs.Common.{◌≡◌, ◌+◌, ◌≤◌}
use Rattle.widl_lines.specs.Lines.{line_number, column_number}
use Rattle.widl_lines.proofs.lines.line_and_column.Given as goal

abbrev pub invariant-loop-byte : goal.invariant-loop-byte
invariant-loop-byte l = record {
  line : l.line ≡ line_number l.text l.byte-index;
  column : l.column ≡ column_number l.text l.byte-index;
  small_line : l.line ≤ l.byte-index + 1;
  small_column : l.column ≤ l.byte-index + 1;
}
