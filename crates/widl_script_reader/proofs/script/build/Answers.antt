use Rattle.std.proofs.Common.{sym, subst, ◌≡◌, ◌≤◌, List, [], ap, arith}
use Rattle.std.specs.Prelude.{map}
use Rattle.widl_lines.specs.LineTerms.{line_of}
use Rattle.widl_lines.specs.TextBreaks.{PlacedLine, most_words_and_lines, words_and_lines}
use Rattle.widl_script_reader.specs.ReadScript.{ReadTo}
use Rattle.widl_script_words.proofs.Parts.{in_ok}
use Rattle.widl_script_reader.proofs.WholeScript.{read_first, read_after, all_read, no_more}
use Rattle.widl_script_reader.proofs.LineRoom.{line_further, nothing_weighs}
use Rattle.widl_script_reader.proofs.script.build.Goals as goal

pub lines-init : goal.lines-init
lines-init c =
    let few : words_and_lines (map line_of c.lines-rest.result.now) ≤ most_words_and_lines = subst (λ (x : List PlacedLine). words_and_lines x ≤ most_words_and_lines) (sym c.lines-rest.ensures.lines) c.lines-rest.ensures.few in
    record {
      read = read_first _ _ _ c.lines-rest.ensures.lines c.lines-rest.ensures.script c.new-builder.ensures.nodes c.new-builder.ensures.frames c.new-builder.ensures.places c.new-builder.ensures.names;
      room = omega (arith, few, nothing_weighs c.new-builder.result c.new-builder.ensures.nodes c.new-builder.ensures.frames c.new-builder.ensures.places);
    }

pub lines-preserved : goal.lines-preserved
lines-preserved c = record {
  read = read_after _ _ _ c.lines.rest.now c.line-item.result c.in-len1-up.len_at_least c.line-item.is c.lines.invariant.read c.in_ok-read_line.ensures.sound c.in_ok-read_line.ensures.grown c.in_ok-read_line.ensures.read;
  room = omega (arith, c.lines.invariant.room, c.in_ok-read_line.ensures.paid, line_further c.lines.rest.now c.line-item.result c.in-len1-up.len_at_least c.line-item.is);
}

pub read_line-requires-clause-room : goal.read_line-requires-clause-room
read_line-requires-clause-room c = omega (arith, c.lines.invariant.room, line_further c.lines.rest.now c.line-item.result c.in-len1-up.len_at_least c.line-item.is)

pub returns-clause-tree : goal.returns-clause-tree
returns-clause-tree c = in_ok c.finish.result _ _ (λ built h owners targets. all_read _ _ _ _ _ (no_more _ c.in_default.len_below) c.lines.invariant.read h owners targets) c.finish.ensures
