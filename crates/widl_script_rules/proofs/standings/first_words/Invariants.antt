use Rattle.std.proofs.Common.{◌≡◌, map, take}
use Rattle.widl_lines.specs.declared.reading.LineWords.{LineWords}
use Rattle.widl_lines.specs.Blocks.{first_word}
use Rattle.widl_script_rules.specs.Surroundings.{plain_line}
use Rattle.widl_script_rules.proofs.standings.first_words.Given as goal

abbrev pub invariant-lines : goal.invariant-lines
invariant-lines l = l.words.items ≡ map (λ (line : LineWords). first_word (plain_line line).words) (take l.line-index l.lines)
