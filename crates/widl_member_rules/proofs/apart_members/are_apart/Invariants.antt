use Rattle.std.proofs.Common.{None, take}
use Rattle.widl_idl.specs.First.{AtOne, FirstWhere}
use Rattle.widl_names.specs.Listings.{listed_members}
use Rattle.widl_member_rules.specs.ApartMembers.{SharesLabel}
use Rattle.widl_member_rules.proofs.apart_members.are_apart.Given as goal

abbrev pub invariant-loop-place : goal.invariant-loop-place
invariant-loop-place l = FirstWhere (AtOne SharesLabel (listed_members (take l.place l.members))) None
