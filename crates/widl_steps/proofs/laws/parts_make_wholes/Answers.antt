use Rattle.widl_steps.proofs.OneNexts.{parts}
use Rattle.widl_steps.specs.Rules.{rule}
use Rattle.widl_steps.proofs.laws.parts_make_wholes.Goals as goal

pub returns : goal.returns
returns c = λ built list. parts (rule built list)
