use Rattle.widl_overload.proofs.Closed.{symmetric}
use Rattle.widl_overload.proofs.distinct.distinguishable_is_symmetric.Goals as goal

pub returns : goal.returns
returns c = symmetric
