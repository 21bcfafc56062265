use Rattle.widl_steps.proofs.ValueCounts.{values_counted}
use Rattle.widl_steps.proofs.laws.values_are_counted.Goals as goal

pub returns : goal.returns
returns c = λ built list. values_counted built list
