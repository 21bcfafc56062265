use Rattle.widl_steps.proofs.MemberReads.{members_are_read}
use Rattle.widl_steps.proofs.laws.members_are_read_in_order.Goals as goal

pub returns : goal.returns
returns c = members_are_read
