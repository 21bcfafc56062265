use Rattle.widl_dialog.proofs.Nexts.{joins, waits}
use Rattle.widl_dialog.proofs.laws.parts_join.Goals as goal

pub returns-clause-whole : goal.returns-clause-whole
returns-clause-whole g c = joins g.R.Rules.rule g.R.Rules.fits

pub returns-clause-ask : goal.returns-clause-ask
returns-clause-ask g c = waits g.R.Rules.rule g.R.Rules.fits
