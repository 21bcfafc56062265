use Rattle.std.proofs.Common.{rules, SFits, to_z, of_z, refl, sym, ◌∙◌, ap, arith, length, length-drop}
use mir.Syntax.{w128}
use Rattle.std.proofs.lemmas.Int.{to_z-of_z}
use Rattle.widl_script_words.specs.StepReading.{is_plain_literal}
use Rattle.widl_script_words.proofs.Parts.{in_ok}
use Rattle.widl_script_words.proofs.BuiltSteps.{plain_read, text_read, list_read, dictionary_read, integer_read}
use Rattle.widl_script_words.proofs.reader.Reader.literal.Goals as goal

pub returns-in-Some-clause-tree : goal.returns-in-Some-clause-tree
returns-in-Some-clause-tree c = plain_read _ _ _ _ c.ahead.ensures c.in-Some.ensures c.take.ensures

pub returns-then-is_ahead-clause-tree : goal.returns-then-is_ahead-clause-tree
returns-then-is_ahead-clause-tree c = text_read _ _ _ _ _ (c.is_ahead.ensures.yes c.if-is_ahead.true) c.in_ok-text.ensures c.form.ensures c.text.ensures c.take-then-is_ahead.ensures

pub returns-then-is_ahead-2-clause-tree : goal.returns-then-is_ahead-2-clause-tree
returns-then-is_ahead-2-clause-tree c = list_read _ _ _ (c.is_ahead-2.ensures.yes c.if-is_ahead-2.true) c.take-then-is_ahead-2.ensures c.take-then-is_ahead-2-2.ensures

pub returns-then-is_ahead-3-clause-tree : goal.returns-then-is_ahead-3-clause-tree
returns-then-is_ahead-3-clause-tree c = dictionary_read _ _ _ (c.is_ahead-3.ensures.yes c.if-is_ahead-3.true) c.take-then-is_ahead-3.ensures c.take-then-is_ahead-3-2.ensures

pub returns-clause-tree : goal.returns-clause-tree
returns-clause-tree c = let fits : SFits w128 c.integer_of-number.result = search rules in integer_read _ _ _ _ (ap is_plain_literal (sym c.ahead.ensures) ∙ c.in_default.ensures) (c.is_ahead.ensures.no c.if-is_ahead.false) (c.is_ahead-2.ensures.no c.if-is_ahead-2.false) (c.is_ahead-3.ensures.no c.if-is_ahead-3.false) (to_z-of_z w128 c.integer_of-number.result fits ∙ c.integer_of-number.ensures) c.text-2.ensures c.take-2.ensures
