use Rattle.std.proofs.Common.{◌+◌, ◌*◌, ◌≤◌, length}
use Rattle.widl_lines.specs.declared.grammar.Rule.TheVariants as rule
use Rattle.widl_script_words.specs.SpelledExpressions.{more_signs}
use Rattle.widl_script_reader.specs.ReadExpressions.{Widens, Holds, Lists}
use Rattle.widl_script_words.specs.Reading.{part}
use Rattle.widl_script_reader.specs.Room.{Pays, Saves}
use Rattle.widl_script_reader.proofs.nodes.Nodes.+expression.Given as goal

abbrev pub decreases-more_items : goal.decreases-more_items
decreases-more_items l = 6 * length l.reader.now + 0

abbrev pub decreases-index_member : goal.decreases-index_member
decreases-index_member l = 6 * length l.reader.now + 1

abbrev pub decreases-call : goal.decreases-call
decreases-call l = 6 * length l.reader.now + 1

abbrev pub decreases-new_object : goal.decreases-new_object
decreases-new_object l = 6 * length l.reader.now + 1

abbrev pub decreases-new_array : goal.decreases-new_array
decreases-new_array l = 6 * length l.reader.now + 1

abbrev pub decreases-call_with : goal.decreases-call_with
decreases-call_with l = 6 * length l.reader.now + 1

abbrev pub decreases-new_of : goal.decreases-new_of
decreases-new_of l = 6 * length l.reader.now + 1

abbrev pub decreases-more_list : goal.decreases-more_list
decreases-more_list l = 6 * length l.reader.now + 1

abbrev pub decreases-primary : goal.decreases-primary
decreases-primary l = 6 * length l.reader.now + 2

abbrev pub decreases-follow_link : goal.decreases-follow_link
decreases-follow_link l = 6 * length l.reader.now + 2

abbrev pub decreases-expression : goal.decreases-expression
decreases-expression l = 6 * length l.reader.now + 3

abbrev pub decreases-items : goal.decreases-items
decreases-items l = 6 * length l.reader.now + 4

abbrev pub decreases-list : goal.decreases-list
decreases-list l = 6 * length l.reader.now + 5

abbrev pub invariant-expression-links : goal.invariant-expression-links
invariant-expression-links l = record {
  shorter : length l.reader ≤ length l.fn.reader;
  grown : Widens l.fn.self l.self;
  tree : Holds (part rule.Expression) (part rule.Postfix) l.self l.place l.fn.reader l.reader;
  paid : Pays 2 l.fn.self l.fn.reader l.self l.reader;
}

abbrev pub decreases-expression-links : goal.decreases-expression-links
decreases-expression-links l = length l.reader

abbrev pub invariant-more_items-items : goal.invariant-more_items-items
invariant-more_items-items l = record {
  shorter : length l.reader ≤ length l.fn.reader;
  grown : Widens l.fn.self l.self;
  lists : Lists (part rule.MoreExpressions) (part rule.MoreExpressions) more_signs l.self l.fn.places.items l.places.items l.fn.reader l.reader;
  paid : Saves (length l.places.items) (length l.fn.places.items) l.fn.self l.fn.reader l.self l.reader;
}

abbrev pub decreases-more_items-items : goal.decreases-more_items-items
decreases-more_items-items l = length l.reader
