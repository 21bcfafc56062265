use Rattle.std.proofs.Common.{refl, sym, ◌∙◌, ap, arith, length, length-drop}
use Rattle.widl_script_words.proofs.Parts.{in_ok}
use Rattle.widl_script_words.proofs.BuiltSteps.{plain_thrown, text_thrown, number_thrown}
use Rattle.widl_script_words.proofs.reader.Reader.thrown.Goals as goal
use Rattle.widl_script_words.specs.StepReading.{is_plain_value}

pub returns-in-Some : goal.returns-in-Some
returns-in-Some c = plain_thrown _ _ _ _ c.ahead.ensures c.in-Some.ensures c.take.ensures

pub returns-then-is_ahead : goal.returns-then-is_ahead
returns-then-is_ahead c = text_thrown _ _ _ _ _ (c.is_ahead.ensures.yes c.if-is_ahead.true) c.in_ok-text.ensures c.form.ensures c.text.ensures c.take-then-is_ahead.ensures

pub returns : goal.returns
returns c = number_thrown _ _ _ _ (ap is_plain_value (sym c.ahead.ensures) ∙ c.in_default.ensures) (c.is_ahead.ensures.no c.if-is_ahead.false) c.number_of-number.ensures c.text-2.ensures c.take-2.ensures
