use Rattle.std.proofs.Common.{refl, sym, ◌∙◌, ap, arith, length, length-drop}
use Rattle.widl_script_words.proofs.Parts.{in_ok}
use Rattle.widl_script_words.proofs.BuiltSteps.{set_slot_read}
use Rattle.widl_script_words.proofs.reader.Reader.slot_step.Goals as goal

pub returns : goal.returns
returns c = set_slot_read _ _ _ _ _ _ _ c.requires c.take.ensures c.in_ok-slot.ensures c.take-2.ensures c.in_ok-source.ensures.tree
