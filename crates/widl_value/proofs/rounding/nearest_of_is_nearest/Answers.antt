use Rattle.widl_value.proofs.NearWords.{nearest_of_nearest, nearest_of_number}
use Rattle.widl_value.proofs.rounding.nearest_of_is_nearest.Goals as goal

pub returns-clause-nearest : goal.returns-clause-nearest
returns-clause-nearest c = nearest_of_nearest

pub returns-clause-number : goal.returns-clause-number
returns-clause-number c = nearest_of_number
