use Rattle.std.proofs.Common.{refl, rules}
use Rattle.widl_script_reader.proofs.TurnedLines.{else_done, else_none}
use Rattle.widl_script_reader.proofs.frames.Builder.else_line.Goals as goal

pub returns-in-None-clause-done : goal.returns-in-None-clause-done
returns-in-None-clause-done c = else_none _ _ _ _ _ c.requires.sound c.requires.begins c.in_ok-then.ensures.row (search rules) (search rules) c.new.ensures.items refl

pub returns-in_ok-push-in-Some-clause-done : goal.returns-in_ok-push-in-Some-clause-done
returns-in_ok-push-in-Some-clause-done c = else_done _ _ c.in-Some.frame _ _ _ _ _ _ c.requires.sound c.requires.begins c.take.ensures c.deref.ensures.value c.in_ok-then.ensures.row c.in-Some.ensures.items c.in_ok-push-in-Some.ensures.items c.with_else.ensures refl c.new.ensures.items refl
