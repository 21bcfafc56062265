use Rattle.widl_steps.proofs.ValidChains.{chains_end}
use Rattle.widl_steps.proofs.laws.valid_chains_end.Goals as goal

pub returns : goal.returns
returns c = chains_end
