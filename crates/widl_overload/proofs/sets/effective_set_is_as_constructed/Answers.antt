use Rattle.widl_overload.proofs.Constructed.{same_tuples}
use Rattle.widl_overload.proofs.sets.effective_set_is_as_constructed.Goals as goal

pub returns : goal.returns
returns c = same_tuples
