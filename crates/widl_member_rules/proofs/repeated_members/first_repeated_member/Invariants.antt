use Rattle.std.proofs.Common.{take}
use Rattle.widl_member_rules.specs.MemberTables.{clashes}
use Rattle.widl_member_rules.proofs.Repetitions.{Repeated}
use Rattle.widl_member_rules.proofs.repeated_members.first_repeated_member.Given as goal
use Rattle.widl_names.specs.Listings.{listed_members}

abbrev pub invariant-loop-member : goal.invariant-loop-member
invariant-loop-member l = Repeated (clashes l.names.operations l.names.others) (listed_members (take l.member-index l.members)) l.best
