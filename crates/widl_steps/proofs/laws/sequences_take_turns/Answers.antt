use Rattle.widl_steps.proofs.Turning.{sequences_take_turns}
use Rattle.widl_steps.proofs.laws.sequences_take_turns.Goals as goal

pub returns : goal.returns
returns c = sequences_take_turns
