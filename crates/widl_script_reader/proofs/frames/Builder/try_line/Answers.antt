use Rattle.widl_script_words.proofs.Parts.{on_more}
use Rattle.widl_script_reader.proofs.OpenedLines.{try_done}
use Rattle.widl_script_reader.proofs.frames.Builder.try_line.Goals as goal

pub returns-clause-done : goal.returns-clause-done
returns-clause-done c = on_more c.open.result _ _ (λ o. try_done _ _ _ c.requires.sound c.requires.begins o) c.open.ensures.opened
