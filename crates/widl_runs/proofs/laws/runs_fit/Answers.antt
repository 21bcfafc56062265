use Rattle.widl_runs.proofs.FittingRuns.{scripts_fit}
use Rattle.widl_runs.proofs.laws.runs_fit.Goals as goal

pub returns : goal.returns
returns c = scripts_fit
