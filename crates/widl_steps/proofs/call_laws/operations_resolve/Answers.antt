use Rattle.widl_steps.proofs.CallLawProofs.{operations_resolve}
use Rattle.widl_steps.proofs.call_laws.operations_resolve.Goals as goal

pub returns : goal.returns
returns c = operations_resolve
