use Rattle.widl_value.proofs.NearSigned.{near_int_unique}
use Rattle.widl_value.proofs.rounding.nearest_is_unique.Goals as goal

pub returns : goal.returns
returns c = near_int_unique
