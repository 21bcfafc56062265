use Rattle.std.proofs.Common.{refl}
use Rattle.widl_steps.specs.BuiltCalls.{calls_built_today}
use Rattle.widl_steps.specs.CallRules.{call_rule}
use Rattle.widl_calls.specs.Frames.{call_job_of}
use Rattle.widl_calls.proofs.CallResuming.{all_is_left, not_begun}
use Rattle.widl_calls.proofs.call_asker.start.Goals as goal

pub returns-clause-stands : goal.returns-clause-stands
returns-clause-stands c list steps = record {
  waits = refl;
  place = not_begun list steps (call_rule calls_built_today list steps (call_job_of list steps c.args.job)) c.new.result.items c.new.ensures.items;
}

pub returns-clause-rest : goal.returns-clause-rest
returns-clause-rest c list steps = all_is_left list steps (call_rule calls_built_today list steps (call_job_of list steps c.args.job)) c.new.result.items c.new.ensures.items
