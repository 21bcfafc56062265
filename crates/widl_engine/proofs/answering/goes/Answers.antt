use Rattle.std.proofs.Common.{subst}
use Rattle.widl_steps.specs.AskTerms.{answer_term}
use Rattle.widl_steps.specs.FoundSteps.{steps_over}
use Rattle.widl_calls.specs.declared.call_asker.CallAsker.{CallAsker}
use Rattle.widl_calls.specs.Stack.{CallResumes, call_rest}
use Rattle.widl_engine.specs.Frames.{list_of}
use Rattle.widl_engine.proofs.Talking.{resumed, waiting}
use Rattle.widl_engine.proofs.answering.goes.Goals as goal

pub goes_on-requires : goal.goes_on-requires
goes_on-requires c = waiting c.args.tables.now c.args.script.now (call_rest (list_of c.args.tables.now) (steps_over c.args.tables.now c.args.script.now) c.deref_mut.result.now (answer_term c.args.answer)) c.resume-next.new.self c.resume-next.result c.resume-next.ensures.goes

pub returns : goal.returns
returns c =
    resumed c.args.tables.now c.args.script.now c.args.asker.value c.resume-next.new.self (answer_term c.args.answer) c.resume-next.result c.goes_on.result
    (subst (λ (x : CallAsker). CallResumes (list_of c.args.tables.now) (steps_over c.args.tables.now c.args.script.now) (call_rest (list_of c.args.tables.now) (steps_over c.args.tables.now c.args.script.now) x (answer_term c.args.answer)) c.resume-next.new.self c.resume-next.result) c.deref_mut.ensures.value c.resume-next.ensures.goes)
    c.goes_on.ensures
