use Rattle.widl_steps.proofs.MemberValues.{members_stand}
use Rattle.widl_steps.proofs.laws.members_stand_in_order.Goals as goal

pub returns : goal.returns
returns c = members_stand
