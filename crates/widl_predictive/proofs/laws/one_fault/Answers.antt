use Rattle.widl_predictive.proofs.Unique as unique
use Rattle.widl_predictive.proofs.laws.one_fault.Goals as goal

pub returns : goal.returns
returns g c = λ start w e f a b. unique.one_fault g.R.Rule.grammar start w e f a b
