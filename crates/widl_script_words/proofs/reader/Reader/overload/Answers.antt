use Rattle.std.proofs.Common.{refl, sym, ◌∙◌, ap, arith, length, length-drop}
use Rattle.widl_script_words.proofs.Parts.{in_ok}
use Rattle.widl_script_words.proofs.BuiltSteps.{overload_read}
use Rattle.widl_script_words.proofs.reader.Reader.overload.Goals as goal

pub returns : goal.returns
returns c = overload_read _ _ _ _ _ c.take.ensures c.index_of-number.ensures c.text.ensures c.take-2.ensures
