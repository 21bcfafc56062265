-- The rows and the printed grammar have the same sentences: the checker computes the tests.
use Rattle.std.proofs.Common.{◌≡◌, true, refl, List}
use Rattle.widl_predictive.proofs.Comparison as comparing
use Rattle.widl_predictive.proofs.Comparison.{Comparison, by_rows, by_print, rows_covered, print_covered, is_rule, is_name, names_back, ruled, low_row, all_low_rows}
use Rattle.widl_predictive.proofs.Alternatives.{same, same_row, some_same, covered}
use Rattle.widl_predictive.proofs.Check.{each}
use Rattle.widl_predictive.specs.Grammar.{Sentence}
use Rattle.widl_grammar.specs.declared.terminal.Terminal.{Terminal}
use Rattle.widl_grammar.specs.declared.rule.Rule.{Rule}
use Rattle.widl_grammar.specs.declared.rule.Rule.TheVariants as row
use Rattle.widl_grammar.specs.Rows.{grammar}
use Rattle.widl_grammar.specs.Tables.{table}
use Rattle.widl_grammar.specs.Owed.{owed}
use Rattle.widl_grammar.specs.Printed as printing
use Rattle.widl_grammar.specs.Printed.{Nonterminal, printed, PrintedSentence}
use Rattle.widl_grammar.proofs.Names.{names}
use Rattle.widl_grammar.proofs.Parts.{part}
use Rattle.widl_grammar.proofs.Ranks.{rank}
use Rattle.widl_grammar.proofs.Prints.{prints}
use Rattle.widl_grammar.proofs.RuleOf.{rule_of}

abbrev comparison : Comparison Terminal Rule Nonterminal
comparison = record { printed = printed; names = names; rule_of = rule_of; prints = prints; part = part; rank = rank }

rows_pass : each (rows_covered table comparison) table.rules.all ≡ true
unfolding each rows_covered by_rows by_print covered some_same same_row same
rows_pass = refl

print_passes : each (print_covered table comparison) table.rules.all ≡ true
unfolding each print_covered by_rows by_print covered some_same same_row same
print_passes = refl

names_pass : each (λ r. names_back table comparison r (prints r)) table.rules.all ≡ true
unfolding each names_back is_rule
names_pass = refl

ruled_passes : each (λ p. ruled table comparison p (rule_of p)) names.all ≡ true
unfolding each ruled is_name same
ruled_passes = refl

low_passes : each (all_low_rows table comparison) table.rules.all ≡ true
unfolding each all_low_rows low_row
low_passes = refl

passed : comparing.Passed table comparison
passed = record { rows_test = rows_pass; print_test = print_passes; names_test = names_pass; ruled_test = ruled_passes; low_test = low_passes }

pub printed_of : (w : List Terminal) → Sentence grammar row.Definitions w → PrintedSentence w
printed_of w d = comparing.sentence_spelled table comparison passed row.Definitions printing.Definitions refl refl w d

pub sentence_of : (w : List Terminal) → PrintedSentence w → Sentence grammar row.Definitions w
sentence_of w d = comparing.spelled_sentence table comparison passed owed row.Definitions printing.Definitions refl refl refl w d
