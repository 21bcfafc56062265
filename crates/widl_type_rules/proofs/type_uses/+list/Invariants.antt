use Rattle.std.proofs.Common.{◌≡◌, ◌++◌, [], flat_map, take}
use Rattle.widl_idl.specs.PlainTypes.{annotated_of}
use Rattle.widl_overload.specs.rules.TypeUses.{uses_of_annotated}
use Rattle.widl_overload.specs.declared.type_role.TypeRole.TheVariants as role
use Rattle.widl_type_rules.specs.UsesListed.{uses_listed}
use Rattle.widl_type_rules.proofs.type_uses.+list.Given as goal

abbrev pub invariant-list_union-loop-member : goal.invariant-list_union-loop-member
invariant-list_union-loop-member l = uses_listed l.uses.items ≡ uses_listed l.initial.uses.items ++ flat_map (λ m. uses_of_annotated role.UnionMember [] (annotated_of m)) (take l.member-index l.members)
