use Rattle.widl_front.proofs.MeantLevels.{meaning_kept}
use Rattle.widl_front.proofs.laws.meanings_keep_to_depths.Goals as goal

pub returns : goal.returns
returns c = meaning_kept
