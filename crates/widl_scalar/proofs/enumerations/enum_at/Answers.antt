use Rattle.widl_scalar.proofs.FirstPlaces.{value_none, value_some}
use Rattle.widl_scalar.proofs.enumerations.enum_at.Goals as goal

pub returns-clause-some : goal.returns-clause-some
returns-clause-some c = value_some _ _ _ _ c.place_in.ensures

pub returns-clause-none : goal.returns-clause-none
returns-clause-none c = value_none _ _ _ _ c.place_in.ensures
