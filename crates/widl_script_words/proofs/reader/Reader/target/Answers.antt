use Rattle.std.proofs.Common.{refl, sym, ◌∙◌, ap, arith, length, length-drop}
use Rattle.widl_script_words.proofs.Parts.{in_ok}
use Rattle.widl_script_words.proofs.BuiltSteps.{target_read}
use Rattle.widl_script_words.proofs.reader.Reader.target.Goals as goal

pub returns : goal.returns
returns c = in_ok c.target_part.result _ _ (λ target h. target_read _ target _ _ _ _ c.in_ok-owner.ensures c.take.ensures h) c.target_part.ensures
