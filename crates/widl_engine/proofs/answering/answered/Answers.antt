use Rattle.std.proofs.Common.{ap}
use Rattle.widl_steps.specs.AskTerms.{AnswerTerm}
use Rattle.widl_steps.specs.Operations.{lines_of}
use Rattle.widl_calls.specs.Stack.{call_rest}
use Rattle.widl_runs.specs.Asks.{in_world}
use Rattle.widl_runs.specs.Jobs.{Doing}
use Rattle.widl_engine.specs.AskKinds.{ask_kind_of}
use Rattle.widl_engine.specs.Frames.{job_end_of, program_of}
use Rattle.widl_engine.proofs.Talking.{expects, leads_same}
use Rattle.widl_engine.proofs.answering.answered.Goals as goal

pub goes-requires : goal.goes-requires
goes-requires c = expects c.args.suspended.asker.value (ask_kind_of c.args.suspended.kind) _ (job_end_of c.args.end) c.args.suspended.waits c.answer-answer.ensures

pub returns : goal.returns
returns c =
    leads_same c.args.tables.now c.args.script.now _ _ c.goes.result (ap (λ (a : AnswerTerm). let d : Doing = in_world (call_rest (program_of c.args.tables.now c.args.script.now).list (lines_of (program_of c.args.tables.now c.args.script.now).list (program_of c.args.tables.now c.args.script.now).script) c.args.suspended.asker.value a) in d) c.answer-answer.ensures) c.goes.ensures
