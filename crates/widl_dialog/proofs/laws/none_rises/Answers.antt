use Rattle.widl_dialog.proofs.Crediting.{none_rises}
use Rattle.widl_dialog.proofs.laws.none_rises.Goals as goal

pub returns : goal.returns
returns g c = none_rises g.R.Rules.rule g.R.Rules.act
