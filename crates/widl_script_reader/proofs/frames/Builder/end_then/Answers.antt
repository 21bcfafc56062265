use Rattle.std.proofs.Common.{refl}
use Rattle.widl_script_words.proofs.Parts.{on_more}
use Rattle.widl_script_reader.proofs.Closing.{then_closed}
use Rattle.widl_script_reader.proofs.frames.Builder.end_then.Goals as goal

pub returns-clause-closed : goal.returns-clause-closed
returns-clause-closed c = on_more c.add.result _ _ (λ a. then_closed _ _ _ _ _ _ _ _ c.deref.ensures.value c.in_ok-then.ensures.row refl refl refl a) c.add.ensures.added
