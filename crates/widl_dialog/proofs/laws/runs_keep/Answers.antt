use Rattle.widl_dialog.proofs.Keeping.{runs_keep}
use Rattle.widl_dialog.proofs.laws.runs_keep.Goals as goal

pub returns : goal.returns
returns g c = runs_keep g.R.Rules.rule g.R.Rules.act g.R.Rules.kept
