use Rattle.widl_steps.proofs.ValueCounts.{others_left}
use Rattle.widl_steps.proofs.laws.others_are_not_looked_at.Goals as goal

pub returns : goal.returns
returns c = λ built list. others_left built list
