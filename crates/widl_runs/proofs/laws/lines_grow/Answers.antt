use Rattle.widl_runs.proofs.LineCosts.{lines_grow}
use Rattle.widl_runs.proofs.laws.lines_grow.Goals as goal

pub returns : goal.returns
returns c = lines_grow
