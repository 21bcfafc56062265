use Rattle.std.proofs.Common.{length}
use Rattle.widl_lines.specs.declared.grammar.Rule.TheVariants as rule
use Rattle.widl_script_words.specs.SpelledStatements.{more_names}
use Rattle.widl_script_words.specs.Reading.{part}
use Rattle.widl_script_reader.specs.ReadExpressions.{Widens}
use Rattle.widl_script_reader.specs.ReadLines.{NameLists}
use Rattle.widl_script_reader.specs.Room.{Pays}
use Rattle.widl_script_reader.proofs.nodes.Nodes.more_params.Given as goal

abbrev pub invariant-names : goal.invariant-names
invariant-names l = record {
  grown : Widens l.fn.self l.self;
  lists : NameLists (part rule.MoreParameters) (part rule.MoreParameters) more_names l.self l.fn.params l.params l.fn.reader l.reader;
  paid : Pays 0 l.fn.self l.fn.reader l.self l.reader;
}

abbrev pub decreases-names : goal.decreases-names
decreases-names l = length l.reader
