use Rattle.std.proofs.Common.{refl, sym, ◌∙◌, ap, arith, length, length-drop}
use Rattle.widl_script_words.proofs.Parts.{in_ok}
use Rattle.widl_script_words.proofs.BuiltSteps.{arg_read, literal_source}
use Rattle.widl_script_words.proofs.reader.Reader.slot_source.Goals as goal

pub returns-then-is_ahead-clause-tree : goal.returns-then-is_ahead-clause-tree
returns-then-is_ahead-clause-tree c = arg_read _ _ _ _ _ (c.is_ahead.ensures.yes c.if-is_ahead.true) c.take.ensures c.index_of-number.ensures c.text.ensures c.take-then-is_ahead.ensures

pub returns-clause-tree : goal.returns-clause-tree
returns-clause-tree c = literal_source _ _ _ _ (c.is_ahead.ensures.no c.if-is_ahead.false) c.take-2.ensures c.in_ok-literal.ensures.tree
