use Rattle.std.proofs.Common.{refl}
use Rattle.widl_script_words.proofs.Parts.{on_more}
use Rattle.widl_script_reader.proofs.OpenedLines.{if_done}
use Rattle.widl_script_reader.proofs.frames.Builder.if_line.Goals as goal

pub returns-clause-done : goal.returns-clause-done
returns-clause-done c = on_more c.open.result _ _ (λ o. if_done _ _ _ _ _ _ _ _ c.requires.sound c.requires.begins c.take.ensures c.in_ok-left.ensures.tree c.in_ok-left.ensures.grown refl refl refl o) c.open.ensures.opened
