use Rattle.widl_front.proofs.MeantLevels.{meaning_within}
use Rattle.widl_front.proofs.laws.meanings_keep_to_the_limit.Goals as goal

pub returns : goal.returns
returns c = meaning_within
