use Rattle.widl_steps.proofs.Faulting.{no_ask_after_fault}
use Rattle.widl_steps.proofs.laws.faults_end.Goals as goal

pub returns : goal.returns
returns c = no_ask_after_fault
