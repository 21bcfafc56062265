use Rattle.std.proofs.Common.{refl, sym, ◌∙◌, ap, arith, length, length-drop}
use Rattle.widl_script_words.proofs.Parts.{in_ok}
use Rattle.widl_script_words.proofs.BuiltSteps.{constructor_holds}
use Rattle.widl_script_words.proofs.reader.Reader.constructor_part.Goals as goal

pub returns : goal.returns
returns c = constructor_holds _ _ _ _ _ c.requires c.take.ensures c.overload-overload.ensures
