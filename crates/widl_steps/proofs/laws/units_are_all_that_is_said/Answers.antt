use Rattle.widl_steps.proofs.ResultSays.{units_alone}
use Rattle.widl_steps.proofs.laws.units_are_all_that_is_said.Goals as goal

pub returns : goal.returns
returns c = units_alone
