use Rattle.widl_steps.proofs.OneNexts.{parts}
use Rattle.widl_steps.specs.CallRules.{call_rule}
use Rattle.widl_steps.proofs.call_laws.parts_make_whole_calls.Goals as goal

pub returns : goal.returns
returns c = λ built list steps. parts (call_rule built list steps)
