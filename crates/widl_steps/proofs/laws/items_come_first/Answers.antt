use Rattle.widl_steps.proofs.ResultSays.{items_first}
use Rattle.widl_steps.proofs.laws.items_come_first.Goals as goal

pub returns : goal.returns
returns c = items_first
