use Rattle.std.proofs.Common.{refl}
use Rattle.widl_script_words.proofs.Parts.{on_more}
use Rattle.widl_script_reader.proofs.ClosedLines.{end_done, no_end_done, none_there}
use Rattle.widl_script_reader.proofs.frames.Builder.end_line.Goals as goal

pub returns-in-Some-clause-done : goal.returns-in-Some-clause-done
returns-in-Some-clause-done c = on_more c.close.result _ _ (λ d. end_done _ _ _ c.in-Some.frame _ c.requires.begins c.in-Some.ensures.items refl refl refl d) c.close.ensures.closed

pub returns-in-None-clause-done : goal.returns-in-None-clause-done
returns-in-None-clause-done c = no_end_done _ _ _ c.requires.sound c.requires.begins c.in-None.ensures.items (none_there _ _ _ c.in-None.ensures.items c.in-None.ensures.rest c.in-None.ensures.cases.0) refl refl refl
