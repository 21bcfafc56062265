use Rattle.widl_steps.proofs.UnionMembers.{unions_ask_as_members}
use Rattle.widl_steps.proofs.laws.unions_ask_as_members.Goals as goal

pub returns : goal.returns
returns c = unions_ask_as_members
