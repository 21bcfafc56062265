use Rattle.widl_predictive.proofs.Unique as unique
use Rattle.widl_predictive.proofs.laws.accepted_has_no_fault.Goals as goal

pub returns : goal.returns
returns g c = λ start w e a b. unique.no_fault g.R.Rule.grammar start w e a b
