use Rattle.widl_overload.proofs.Ruled.{ruled}
use Rattle.widl_overload.proofs.distinct.distinguishable_by_rules.Goals as goal

pub returns : goal.returns
returns c = ruled
