use Rattle.std.proofs.Common.{refl, sym, ◌∙◌, ap, arith, length, length-drop}
use Rattle.widl_script_words.proofs.Parts.{in_ok}
use Rattle.widl_script_words.proofs.BuiltSteps.{append_read}
use Rattle.widl_script_words.proofs.reader.Reader.append_step.Goals as goal

pub returns : goal.returns
returns c = append_read _ _ _ _ _ _ c.requires c.take.ensures c.in_ok-key.ensures.tree c.in_ok-value.ensures.tree
