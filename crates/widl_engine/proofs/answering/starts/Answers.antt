use Rattle.std.proofs.Common.{ap, ◌∙◌}
use Rattle.widl_steps.specs.AskTerms.{BeginAnswer}
use Rattle.widl_steps.specs.CallTasks.{CallTalk}
use Rattle.widl_steps.specs.Operations.{lines_of}
use Rattle.widl_calls.specs.declared.call_asker.CallAsker.{CallAsker}
use Rattle.widl_calls.specs.Stack.{call_rest}
use Rattle.widl_runs.specs.Asks.{in_world}
use Rattle.widl_engine.specs.Frames.{program_of}
use Rattle.widl_engine.proofs.Talking.{leads_same}
use Rattle.widl_engine.proofs.answering.starts.Goals as goal

pub returns : goal.returns
returns c =
    leads_same c.args.tables.now c.args.script.now _ _ c.goes.result
    (ap (λ (d : CallTalk). in_world d)
    (ap (λ (a : CallAsker). call_rest (program_of c.args.tables.now c.args.script.now).list (lines_of (program_of c.args.tables.now c.args.script.now).list (program_of c.args.tables.now c.args.script.now).script) a BeginAnswer) c.in_ok-new.ensures.ok
    ∙ c.in_ok-asker.ensures.rest (program_of c.args.tables.now c.args.script.now).list (lines_of (program_of c.args.tables.now c.args.script.now).list (program_of c.args.tables.now c.args.script.now).script)))
    c.goes.ensures
