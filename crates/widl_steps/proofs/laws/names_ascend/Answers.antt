use Rattle.widl_steps.proofs.NameOrder.{names_ascend}
use Rattle.widl_steps.proofs.laws.names_ascend.Goals as goal

pub returns : goal.returns
returns c = names_ascend
