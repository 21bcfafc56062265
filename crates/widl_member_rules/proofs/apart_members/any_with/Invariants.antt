use Rattle.std.proofs.Common.{◌≡◌, false, take}
use Rattle.std.specs.List.{list_any}
use Rattle.widl_names.specs.Listings.{listed_members}
use Rattle.widl_member_rules.specs.ApartMembers.{has_label}
use Rattle.widl_member_rules.proofs.apart_members.any_with.Given as goal

abbrev pub invariant-loop-member : goal.invariant-loop-member
invariant-loop-member l = list_any (has_label l.text) (listed_members (take l.member-index l.members)) ≡ false
