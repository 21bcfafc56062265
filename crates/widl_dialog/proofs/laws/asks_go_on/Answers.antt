use Rattle.widl_dialog.proofs.Wholes.{asks_go_on}
use Rattle.widl_dialog.proofs.laws.asks_go_on.Goals as goal

pub returns : goal.returns
returns g c = asks_go_on g.R.Rules.rule g.R.Rules.fits
