use Rattle.std.proofs.Common.{refl, sym, ◌∙◌, ap, arith, length, length-drop}
use Rattle.widl_script_words.proofs.Parts.{in_ok}
use Rattle.widl_script_words.proofs.BuiltSteps.{this_read, slot_read, slot_source_read}
use Rattle.widl_script_words.proofs.reader.Reader.source.Goals as goal

pub returns-then-is_ahead-clause-tree : goal.returns-then-is_ahead-clause-tree
returns-then-is_ahead-clause-tree c = this_read _ _ (c.is_ahead.ensures.yes c.if-is_ahead.true) c.take.ensures

pub returns-then-is_ahead-2-clause-tree : goal.returns-then-is_ahead-2-clause-tree
returns-then-is_ahead-2-clause-tree c = slot_read _ _ _ _ (c.is_ahead-2.ensures.yes c.if-is_ahead-2.true) c.take-then-is_ahead-2.ensures c.in_ok-target_name.ensures

pub returns-clause-tree : goal.returns-clause-tree
returns-clause-tree c = in_ok c.slot_source.result _ _ (λ s h. slot_source_read s _ _ (c.is_ahead.ensures.no c.if-is_ahead.false) (c.is_ahead-2.ensures.no c.if-is_ahead-2.false) h) c.slot_source.ensures.tree
