use Rattle.widl_inheritance.proofs.ReachedParents.{inherits_reaching}
use Rattle.widl_inheritance.proofs.laws.inherits_through_parents.Goals as goal

pub returns : goal.returns
returns c = inherits_reaching
