use Rattle.std.proofs.Common.{◌≡◌, ◌++◌, flat_map, take}
use Rattle.widl_idl.specs.PlainTrees.{member_of}
use Rattle.widl_overload.specs.rules.TypeUses.{uses_of_member}
use Rattle.widl_type_rules.specs.UsesListed.{uses_listed}
use Rattle.widl_type_rules.proofs.type_uses.list_members.Given as goal

abbrev pub invariant-loop-member : goal.invariant-loop-member
invariant-loop-member l = uses_listed l.uses.items ≡ uses_listed l.initial.uses.items ++ flat_map (λ x. uses_of_member (member_of x)) (take l.member-index l.members)
