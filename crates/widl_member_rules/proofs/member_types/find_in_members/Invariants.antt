use Rattle.std.proofs.Common.{take}
use Rattle.widl_idl.specs.PlainTrees.{members_of, plain_definitions}
use Rattle.widl_overload.specs.rules.OnMembers.{NodesBreak, member_rules}
use Rattle.widl_member_rules.specs.MemberTypes.{member_nodes}
use Rattle.widl_refusals.specs.Refusals.{IsFirst}
use Rattle.widl_member_rules.proofs.member_types.find_in_members.Given as goal

abbrev pub invariant-loop-member : goal.invariant-loop-member
invariant-loop-member l = IsFirst (NodesBreak (plain_definitions l.resolver) (member_nodes (members_of (take l.member-index l.members)))) member_rules l.best
