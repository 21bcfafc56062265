use Rattle.widl_steps.proofs.OneNexts.{beginnings}
use Rattle.widl_steps.specs.Rules.{rule}
use Rattle.widl_steps.proofs.laws.has_one_next.Goals as goal

pub returns : goal.returns
returns c = λ built list. beginnings (rule built list)
