use Rattle.widl_steps.proofs.ContainerAsks.{records_ask_once}
use Rattle.widl_steps.proofs.laws.records_ask_once.Goals as goal

pub returns : goal.returns
returns c = records_ask_once
