use Rattle.std.proofs.Common.{◌∙◌, sym, arith}
use Rattle.widl_grammar.specs.declared.terminal.Terminal.TheVariants.{Identifier}
use Rattle.widl_grammar.specs.declared.spelling.TheConstants.{QUOTED}
use Rattle.widl_grammar.proofs.SpellingTable.{found_first, found_later}
use Rattle.widl_grammar.proofs.lookup.quoted_between.Goals as goal

pub returns-then-is_same_text : goal.returns-then-is_same_text
returns-then-is_same_text c = found_first QUOTED c.loop-number.number c.args.to Identifier _ c.args.text.now _ (omega arith) (omega arith) c.spelling.ensures c.is_same_text.ensures c.if-is_same_text.true ∙ sym c.loop-number.invariant

pub loop-number-preserved : goal.loop-number-preserved
loop-number-preserved c = c.loop-number.invariant ∙ found_later QUOTED c.loop-number.number c.args.to Identifier _ c.args.text.now _ (omega arith) (omega arith) c.spelling.ensures c.is_same_text.ensures c.if-is_same_text.false
