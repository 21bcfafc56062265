use Rattle.std.proofs.Common.{refl, rules}
use Rattle.widl_script_reader.proofs.TurnedLines.{catch_done, catch_none}
use Rattle.widl_script_reader.proofs.frames.Builder.catch_line.Goals as goal

pub returns-in-None-clause-done : goal.returns-in-None-clause-done
returns-in-None-clause-done c = catch_none _ _ _ _ _ _ c.requires.sound c.requires.begins c.in_ok-name.ensures.grown c.in_ok-body.ensures.row (search rules) (search rules) c.new.ensures.items refl

pub returns-in_ok-push-in-Some-clause-done : goal.returns-in_ok-push-in-Some-clause-done
returns-in_ok-push-in-Some-clause-done c = catch_done _ _ _ c.in-Some.frame _ _ _ _ _ _ _ _ c.requires.sound c.requires.begins c.take.ensures c.in_ok-name.ensures.grown c.in_ok-name.ensures.name c.deref.ensures.value c.in_ok-body.ensures.row c.in-Some.ensures.items c.in_ok-push-in-Some.ensures.items c.with_catch.ensures refl c.new.ensures.items c.in_ok-put-in-Some.ensures.ok
