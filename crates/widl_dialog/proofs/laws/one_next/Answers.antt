use Rattle.widl_dialog.proofs.Nexts.{one_next}
use Rattle.widl_dialog.proofs.laws.one_next.Goals as goal

pub returns : goal.returns
returns g c = one_next g.R.Rules.rule g.R.Rules.fits
