use Rattle.widl_predictive.proofs.Unique as unique
use Rattle.widl_predictive.proofs.laws.one_syntax_place.Goals as goal

pub returns : goal.returns
returns g c = λ start w j k a b. unique.one_place g.R.Rule.grammar start w j k a b
