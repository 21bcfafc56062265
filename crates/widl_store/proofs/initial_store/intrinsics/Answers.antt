use Rattle.widl_store.specs.Intrinsics.{intrinsics}
use Rattle.widl_store.proofs.initial_store.intrinsics.Goals as goal

pub returns : goal.returns
unfolding intrinsics
returns c = c.in_ok-objects.ensures
