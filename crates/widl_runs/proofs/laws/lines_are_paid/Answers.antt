use Rattle.widl_runs.proofs.LineCosts.{lines_are_paid}
use Rattle.widl_runs.proofs.laws.lines_are_paid.Goals as goal

pub returns : goal.returns
returns c = lines_are_paid
