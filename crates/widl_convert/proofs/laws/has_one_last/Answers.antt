use Rattle.widl_convert.proofs.Standing.{one_last}
use Rattle.widl_convert.proofs.laws.has_one_last.Goals as goal

pub returns : goal.returns
returns c = one_last
