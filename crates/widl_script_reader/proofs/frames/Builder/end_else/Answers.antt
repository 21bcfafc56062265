use Rattle.std.proofs.Common.{refl}
use Rattle.widl_script_words.proofs.Parts.{on_more}
use Rattle.widl_script_reader.proofs.Closing.{else_closed}
use Rattle.widl_script_reader.proofs.frames.Builder.end_else.Goals as goal

pub returns-clause-closed : goal.returns-clause-closed
returns-clause-closed c = on_more c.add.result _ _ (λ a. else_closed _ _ _ _ _ _ _ _ _ c.deref.ensures.value c.in_ok-otherwise.ensures.row refl refl refl a) c.add.ensures.added
