use Rattle.std.proofs.Common.{Result, subst, sym}
use Rattle.std.specs.Prelude.{Ok, Err, IfOk}
use Rattle.std.specs.declared.alloc.AllocError.{AllocError}
use Rattle.widl_idl.specs.DefinitionTerms.{DefsTerm, defs_term}
use Rattle.widl_steps.specs.BuiltCalls.{calls_built_today}
use Rattle.widl_steps.specs.CallRules.{call_rule}
use Rattle.widl_steps.specs.FoundSteps.{steps_over}
use Rattle.widl_steps.specs.Operations.{StepsOf}
use Rattle.widl_calls.specs.declared.jobs.CallJob.{CallJob}
use Rattle.widl_calls.specs.declared.jobs.CallJob.TheVariants as jobs
use Rattle.widl_calls.specs.declared.moves.CallMove.{CallMove}
use Rattle.widl_calls.specs.Frames.{CallLeads, call_dialog, call_job_of}
use Rattle.widl_calls.proofs.CallLeading.{function_leads}
use Rattle.widl_calls.proofs.steps.begin.Goals as goal

pub returns-in-Function-clause-leads : goal.returns-in-Function-clause-leads
returns-in-Function-clause-leads c =
    let list = defs_term c.args.tables.now.defs in
    let steps = steps_over c.args.tables.now c.args.script.now in
    subst (λ (j : CallJob). IfOk c.function.result (λ m. CallLeads list steps (call_rule calls_built_today list steps (call_job_of list steps j)) (call_dialog list steps m)))
    (sym c.in-Function.is)
    (function_leads list steps c.in-Function.f c.in-Function.what c.in-Function.this c.in-Function.args.values c.in-Function.construct c.function.result c.function.ensures.dialog)

-- what holds for the blocks of every script holds for those of one
at_steps : (list : DefsTerm) (steps : StepsOf) (j : CallJob) (r : Result CallMove AllocError) → IfOk r (λ m. (each : StepsOf) → CallLeads list each (call_rule calls_built_today list each (call_job_of list each j)) (call_dialog list each m)) → IfOk r (λ m. CallLeads list steps (call_rule calls_built_today list steps (call_job_of list steps j)) (call_dialog list steps m))
at_steps list steps j (Ok m) all = all steps
at_steps list steps j (Err error) all = tt

pub returns-in-ToLength-clause-leads : goal.returns-in-ToLength-clause-leads
returns-in-ToLength-clause-leads c =
    let list = defs_term c.args.tables.now.defs in
    let steps = steps_over c.args.tables.now c.args.script.now in
    subst (λ (j : CallJob). IfOk c.to_length.result (λ m. CallLeads list steps (call_rule calls_built_today list steps (call_job_of list steps j)) (call_dialog list steps m)))
    (sym c.in-ToLength.is)
    (at_steps list steps (jobs.ToLength c.in-ToLength.value) c.to_length.result c.to_length.ensures.leads)
