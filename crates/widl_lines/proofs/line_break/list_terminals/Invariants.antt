use Rattle.std.proofs.Common.{◌≡◌, map, take}
use Rattle.widl_lines.proofs.line_break.list_terminals.Given as goal

abbrev pub invariant-loop-word : goal.invariant-loop-word
invariant-loop-word l = l.room.items ≡ map (λ word. word.terminal) (take l.word-index l.words)
