use Rattle.widl_steps.proofs.ContainerAsks.{sequences_ask_once}
use Rattle.widl_steps.proofs.laws.sequences_ask_once.Goals as goal

pub returns : goal.returns
returns c = sequences_ask_once
