use Rattle.std.proofs.Common.{◌≡◌, ◌++◌, flat_map, take}
use Rattle.widl_idl.specs.Nodes.{nodes_of_member}
use Rattle.widl_idl.specs.PlainTrees.{member_of}
use Rattle.widl_names.specs.Listings.{nodes_listed}
use Rattle.widl_names.proofs.listings.list_members.Given as goal

abbrev pub invariant-loop-member : goal.invariant-loop-member
invariant-loop-member l = nodes_listed l.nodes.items ≡ nodes_listed l.initial.nodes.items ++ flat_map (λ x. nodes_of_member (member_of x)) (take l.member-index l.members)
