use Rattle.std.proofs.Common.{refl, rules}
use Rattle.widl_script_reader.proofs.TurnedLines.{step_done, step_none}
use Rattle.widl_script_reader.proofs.frames.Builder.step_line.Goals as goal

pub returns-in-None-clause-done : goal.returns-in-None-clause-done
returns-in-None-clause-done c = step_none _ _ _ c.requires.inside (search rules)

pub returns-in_ok-push-in-Some-clause-done : goal.returns-in_ok-push-in-Some-clause-done
returns-in_ok-push-in-Some-clause-done c = step_done _ _ c.in-Some.frame _ _ _ _ _ c.requires.sound c.requires.inside c.requires.other c.in_ok-step.ensures c.in-Some.ensures.items c.in_ok-push-in-Some.ensures.items c.in_ok-with_step-in-Some.ensures refl refl refl refl
