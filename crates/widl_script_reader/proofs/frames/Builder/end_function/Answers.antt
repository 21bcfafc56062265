use Rattle.std.proofs.Common.{refl}
use Rattle.widl_script_words.proofs.Parts.{on_more}
use Rattle.widl_script_reader.proofs.Closing.{function_closed}
use Rattle.widl_script_reader.proofs.frames.Builder.end_function.Goals as goal

pub returns-clause-closed : goal.returns-clause-closed
returns-clause-closed c = on_more c.add.result _ _ (λ a. function_closed c.args.head _ _ _ _ _ _ _ _ _ _ c.deref.ensures.value c.replace-names.ensures.value c.in_ok-body.ensures.row c.in_ok-number.ensures.put refl refl c.replace-names.ensures.after a) c.add.ensures.added
