use Rattle.widl_steps.proofs.CallFinishing.{all_talked}
use Rattle.widl_steps.proofs.call_laws.call_asks_are_talked.Goals as goal

pub returns : goal.returns
returns c = all_talked
