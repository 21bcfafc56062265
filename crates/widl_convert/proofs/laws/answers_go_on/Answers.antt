use Rattle.widl_convert.proofs.Standing.{goes_on}
use Rattle.widl_convert.proofs.laws.answers_go_on.Goals as goal

pub returns : goal.returns
returns c = goes_on
