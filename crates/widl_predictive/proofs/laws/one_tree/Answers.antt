use Rattle.widl_predictive.proofs.Running as running
use Rattle.widl_predictive.proofs.laws.one_tree.Goals as goal

pub returns : goal.returns
returns g c = λ start w may d e. running.sentence_tree g.R.Rule.grammar g.R.Rule.sets g.met.R.Rule.predictive start w may d e
