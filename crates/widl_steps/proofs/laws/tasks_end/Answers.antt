use Rattle.widl_steps.proofs.Finishing.{fine_rule}
use Rattle.widl_steps.proofs.laws.tasks_end.Goals as goal

pub returns : goal.returns
returns c = λ built list chains_end task. (fine_rule built list chains_end task).ends
