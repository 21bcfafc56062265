use Rattle.widl_script_words.proofs.UniqueScripts.{each_script}
use Rattle.widl_script_words.proofs.laws.one_script.Goals as goal

pub returns : goal.returns
returns c = each_script
