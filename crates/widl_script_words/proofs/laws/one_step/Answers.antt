use Rattle.widl_script_words.proofs.UniqueSteps.{each_step}
use Rattle.widl_script_words.proofs.laws.one_step.Goals as goal

pub returns : goal.returns
returns c = each_step
