use Rattle.std.proofs.Common.{◌≡◌, ◌++◌, take}
use Rattle.widl_idl.specs.PlainTrees.{members_of}
use Rattle.widl_names.specs.Listings.{listed_members}
use Rattle.widl_names.proofs.part_members.add_members.Given as goal

abbrev pub invariant-loop-member : goal.invariant-loop-member
invariant-loop-member l = listed_members l.list.items ≡ listed_members l.initial.list.items ++ members_of (take l.member-index l.members)
