use Rattle.widl_dialog.proofs.Nexts.{splits}
use Rattle.widl_dialog.proofs.laws.wholes_split.Goals as goal

pub returns : goal.returns
returns g c = splits g.R.Rules.rule g.R.Rules.fits
