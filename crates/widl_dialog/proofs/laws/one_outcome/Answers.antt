use Rattle.widl_dialog.proofs.Running.{one_outcome}
use Rattle.widl_dialog.proofs.laws.one_outcome.Goals as goal

pub returns : goal.returns
returns g c = λ d w v v' f f' x y. one_outcome g.R.Rules.rule g.R.Rules.act x y
