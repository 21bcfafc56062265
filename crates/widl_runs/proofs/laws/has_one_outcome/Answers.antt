use Rattle.widl_runs.proofs.Outcomes.{has_one_outcome}
use Rattle.widl_runs.proofs.laws.has_one_outcome.Goals as goal

pub returns : goal.returns
returns c = has_one_outcome
