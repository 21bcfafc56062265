use Rattle.std.proofs.Common.{refl}
use Rattle.widl_script_words.proofs.Parts.{on_more}
use Rattle.widl_script_reader.proofs.Closing.{steps_closed}
use Rattle.widl_script_reader.proofs.frames.Builder.end_steps.Goals as goal

pub returns-clause-closed : goal.returns-clause-closed
returns-clause-closed c = on_more c.add.result _ _ (λ a. steps_closed _ _ _ _ _ _ c.in_ok-number.ensures.put refl refl refl a) c.add.ensures.added
