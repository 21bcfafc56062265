use Rattle.widl_dialog.proofs.Ending.{ends}
use Rattle.widl_dialog.proofs.laws.each_ends.Goals as goal

pub returns : goal.returns
returns g c = ends g.R.Rules.rule g.R.Rules.act
