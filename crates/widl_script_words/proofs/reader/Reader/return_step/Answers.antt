use Rattle.std.proofs.Common.{refl, sym, ◌∙◌, ap, arith, length, length-drop}
use Rattle.widl_script_words.proofs.Parts.{in_ok}
use Rattle.widl_script_words.proofs.BuiltSteps.{return_invoke_read, return_read}
use Rattle.widl_script_words.proofs.reader.Reader.return_step.Goals as goal

pub returns-then-is_ahead : goal.returns-then-is_ahead
returns-then-is_ahead c = return_invoke_read _ _ _ _ _ c.requires c.take.ensures (c.is_ahead.ensures.yes c.if-is_ahead.true) c.take-then-is_ahead.ensures c.in_ok-invoke.ensures

pub returns : goal.returns
returns c = return_read _ _ _ _ c.requires c.take.ensures (c.is_ahead.ensures.no c.if-is_ahead.false) c.in_ok-source.ensures.tree
