use Rattle.widl_predictive.proofs.Unique as unique
use Rattle.widl_predictive.proofs.laws.sentence_has_no_syntax_place.Goals as goal

pub returns : goal.returns
returns g c = λ start w k d p. unique.no_place g.R.Rule.grammar start w k d p
