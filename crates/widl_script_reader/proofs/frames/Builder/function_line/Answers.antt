use Rattle.std.proofs.Common.{refl, ◌∙◌}
use Rattle.widl_script_words.proofs.Parts.{on_more}
use Rattle.widl_script_reader.proofs.OpenedLines.{function_done}
use Rattle.widl_script_reader.proofs.frames.Builder.function_line.Goals as goal

pub returns-clause-done : goal.returns-clause-done
returns-clause-done c = on_more c.open.result _ _ (λ o. function_done _ _ _ _ _ _ _ _ c.requires.sound c.requires.begins c.take.ensures c.in_ok-head.ensures.tree c.in_ok-head.ensures.grown refl refl c.replace-outer.ensures.value (c.replace-outer.ensures.after ∙ c.in_ok-names.ensures) o) c.open.ensures.opened
