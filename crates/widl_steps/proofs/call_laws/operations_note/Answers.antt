use Rattle.widl_steps.proofs.CallLawProofs.{operations_note}
use Rattle.widl_steps.proofs.call_laws.operations_note.Goals as goal

pub returns : goal.returns
returns c = operations_note
