use Rattle.widl_script_words.proofs.Parts.{on_more}
use Rattle.widl_script_reader.proofs.ClosedLines.{catch_frame, then_frame, else_frame, steps_frame, function_frame}
use Rattle.widl_script_reader.proofs.frames.Builder.close.Goals as goal

pub returns-in-Catch-clause-closed : goal.returns-in-Catch-clause-closed
returns-in-Catch-clause-closed c = on_more c.end_catch.result _ _ (λ d. catch_frame c.in-Catch.body c.in-Catch.name c.args.frame _ _ c.in-Catch.is c.requires.sound c.requires.frame d) c.end_catch.ensures.closed

pub returns-in-Then-clause-closed : goal.returns-in-Then-clause-closed
returns-in-Then-clause-closed c = on_more c.end_then.result _ _ (λ d. then_frame c.in-Then.left c.in-Then.right c.args.frame _ _ c.in-Then.is c.requires.sound c.requires.frame d) c.end_then.ensures.closed

pub returns-in-Else-clause-closed : goal.returns-in-Else-clause-closed
returns-in-Else-clause-closed c = on_more c.end_else.result _ _ (λ d. else_frame c.in-Else.left c.in-Else.right c.in-Else.then c.args.frame _ _ c.in-Else.is c.requires.sound c.requires.frame d) c.end_else.ensures.closed

pub returns-in-Function-clause-closed : goal.returns-in-Function-clause-closed
returns-in-Function-clause-closed c = on_more c.end_function.result _ _ (λ d. function_frame c.in-Function.head c.in-Function.outer c.args.frame _ _ c.in-Function.is c.requires.sound c.requires.frame d) c.end_function.ensures.closed

pub returns-in-Steps-clause-closed : goal.returns-in-Steps-clause-closed
returns-in-Steps-clause-closed c = on_more c.end_steps.result _ _ (λ d. steps_frame c.in-Steps.target c.in-Steps.lines c.args.frame _ _ c.in-Steps.is c.requires.sound d) c.end_steps.ensures.closed
