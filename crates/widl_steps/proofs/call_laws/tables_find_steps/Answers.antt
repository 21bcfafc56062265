use Rattle.widl_steps.proofs.CallLawProofs.{tables_find}
use Rattle.widl_steps.proofs.call_laws.tables_find_steps.Goals as goal

pub returns : goal.returns
returns c = tables_find
