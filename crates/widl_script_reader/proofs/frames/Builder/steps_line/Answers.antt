use Rattle.std.proofs.Common.{refl, rules}
use Rattle.widl_script_reader.proofs.TurnedLines.{steps_done}
use Rattle.widl_script_reader.proofs.frames.Builder.steps_line.Goals as goal

pub returns-clause-done : goal.returns-clause-done
returns-clause-done c = steps_done _ _ _ _ _ _ _ _ c.requires.sound c.requires.begins c.take.ensures c.in_ok-target.ensures c.in_ok-push.ensures.items refl c.new.ensures c.new-2.ensures.items refl refl refl
