use Rattle.std.proofs.Common.{refl, sym, ◌∙◌, ap, arith, length, length-drop}
use Rattle.widl_script_words.proofs.Parts.{in_ok}
use Rattle.widl_script_words.proofs.BuiltSteps.{invoke_read}
use Rattle.widl_script_words.proofs.reader.Reader.invoke.Goals as goal

pub returns : goal.returns
returns c = invoke_read _ _ _ _ _ _ _ _ c.take.ensures c.index_of-arg.ensures c.text.ensures c.take-2.ensures c.take-3.ensures c.in_ok-sources.ensures c.take-4.ensures
