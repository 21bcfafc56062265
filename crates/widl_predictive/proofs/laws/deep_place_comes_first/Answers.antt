use Rattle.widl_predictive.proofs.Unique as unique
use Rattle.widl_predictive.proofs.laws.deep_place_comes_first.Goals as goal

pub returns : goal.returns
returns g c = λ start w j k d p. unique.deep_place_before g.R.Rule.grammar start w j k d p
