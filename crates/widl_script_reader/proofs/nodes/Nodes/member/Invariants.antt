use Rattle.std.proofs.Common.{length, ◌≤◌, ◌≡◌, true}
use Rattle.widl_lines.specs.declared.grammar.Rule.TheVariants as rule
use Rattle.widl_script_tree.specs.Tables.{expression_at}
use Rattle.widl_script_reader.specs.ReadExpressions.{Widens, Holds, member_tail, is_member}
use Rattle.widl_script_words.specs.Reading.{part}
use Rattle.widl_script_reader.specs.Room.{Pays}
use Rattle.widl_script_reader.proofs.nodes.Nodes.member.Given as goal

abbrev pub invariant-links : goal.invariant-links
invariant-links l = record {
  shorter : length l.reader ≤ length l.fn.reader;
  grown : Widens l.fn.self l.self;
  is : l.ended ≡ true → is_member (expression_at l.self l.place) ≡ true;
  tree : Holds (part rule.Member) (part (member_tail l.ended)) l.self l.place l.fn.reader l.reader;
  paid : Pays 2 l.fn.self l.fn.reader l.self l.reader;
}

abbrev pub decreases-links : goal.decreases-links
decreases-links l = length l.reader
