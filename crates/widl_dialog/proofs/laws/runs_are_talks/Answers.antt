use Rattle.widl_dialog.proofs.Lifting.{runs_are_talks}
use Rattle.widl_dialog.proofs.laws.runs_are_talks.Goals as goal

pub returns : goal.returns
returns g c = λ ways. runs_are_talks g.T.Rules.rule g.T.Rules.fits ways g.R.Rules.rule g.R.Rules.act
