use Rattle.widl_steps.proofs.OneNexts.{beginnings}
use Rattle.widl_steps.specs.CallRules.{call_rule}
use Rattle.widl_steps.proofs.call_laws.calls_have_one_next.Goals as goal

pub returns : goal.returns
returns c = λ built list steps. beginnings (call_rule built list steps)
