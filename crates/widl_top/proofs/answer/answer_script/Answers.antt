use Rattle.std.proofs.Common.{refl, sym, true≢false}
use Rattle.widl_top.specs.Outputs.{IsRunOutput, later_output, not_served}
use Rattle.widl_top.proofs.Answered.{at_once}
use Rattle.widl_top.proofs.answer.answer_script.Goals as goal

-- the set isn't served, as the test has said
pub returns-else-is_served : goal.returns-else-is_served
returns-else-is_served g c =
    at_once (IsRunOutput c.args.budget c.args.script.now c.args.accepted) later_output _ _ _ _ _
    (not_served (λ s. true≢false (sym (c.if-is_served.ensures.1 s))) refl) c.answer_later.ensures
