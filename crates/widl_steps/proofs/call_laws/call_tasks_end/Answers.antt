use Rattle.widl_steps.proofs.CallFinishing.{fine_call_rule}
use Rattle.widl_steps.proofs.call_laws.call_tasks_end.Goals as goal

pub returns : goal.returns
returns c = λ built list script chains_end task. (fine_call_rule built list script chains_end task).ends
