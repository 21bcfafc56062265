use Rattle.std.proofs.Common.{take}
use Rattle.widl_names.specs.Listings.{listed_members}
use Rattle.widl_member_rules.proofs.SecondStringifiers.{Seen}
use Rattle.widl_member_rules.proofs.stringifiers.first_second_stringifier.Given as goal

abbrev pub invariant-loop-member : goal.invariant-loop-member
invariant-loop-member l = Seen l.seen (listed_members (take l.member-index l.members)) l.best
