use Rattle.widl_steps.proofs.Finishing.{all_talked}
use Rattle.widl_steps.proofs.laws.asks_are_talked.Goals as goal

pub returns : goal.returns
returns c = all_talked
