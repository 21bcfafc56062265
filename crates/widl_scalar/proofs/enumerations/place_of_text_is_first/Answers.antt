use Rattle.widl_scalar.proofs.FirstPlaces.{place_none, place_some}
use Rattle.widl_scalar.proofs.enumerations.place_of_text_is_first.Goals as goal

pub returns-clause-some : goal.returns-clause-some
returns-clause-some c = place_some

pub returns-clause-none : goal.returns-clause-none
returns-clause-none c = place_none
