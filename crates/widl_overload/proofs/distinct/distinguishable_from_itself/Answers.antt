use Rattle.widl_overload.proofs.Closed.{never_from_itself}
use Rattle.widl_overload.proofs.distinct.distinguishable_from_itself.Goals as goal

pub returns : goal.returns
returns c = never_from_itself
