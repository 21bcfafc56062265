use Rattle.std.proofs.Common.{refl, sym, ◌∙◌, ap, arith, length, length-drop}
use Rattle.widl_script_words.proofs.Parts.{in_ok}
use Rattle.widl_script_words.proofs.BuiltSteps.{throw_read, clear_read, invoke_line_read}
use Rattle.widl_script_words.proofs.reader.Reader.step_line.Goals as goal

pub returns-then-is_throw : goal.returns-then-is_throw
returns-then-is_throw c = throw_read _ _ _ _ (c.is_ahead-is_throw.ensures.yes c.if-is_throw.true) c.take.ensures c.in_ok-thrown.ensures

pub returns-then-is_clear : goal.returns-then-is_clear
returns-then-is_clear c = clear_read _ _ (c.is_ahead-is_clear.ensures.yes c.if-is_clear.true) c.take.ensures

pub returns : goal.returns
returns c = invoke_line_read _ _ _ _ (c.is_ahead.ensures.no c.if-is_ahead.false) (c.is_ahead-2.ensures.no c.if-is_ahead-2.false) (c.is_ahead-3.ensures.no c.if-is_ahead-3.false) (c.is_ahead-is_throw.ensures.no c.if-is_throw.false) (c.is_ahead-is_clear.ensures.no c.if-is_clear.false) c.requires c.take.ensures c.in_ok-invoke.ensures
