use Rattle.std.proofs.Common.{◌≡◌, take, map, true}
use Rattle.std.specs.List.{list_all}
use Rattle.widl_idl.specs.DefinitionTerms.{iface_term}
use Rattle.widl_idl.specs.Flattened.{flattened_member, flattened_members}
use Rattle.widl_idl.specs.Terms.{packed, type_term}
use Rattle.widl_overload.specs.sets.Pairs.{each_apart}
use Rattle.widl_overload.proofs.distinct.+pairs.Given as goal

abbrev pub invariant-all_members_apart-loop-member : goal.invariant-all_members_apart-loop-member
invariant-all_members_apart-loop-member l = list_all (each_apart (map iface_term l.ifaces) (flattened_member (type_term l.b))) (flattened_members (packed (map type_term (take l.member-index l.member-items)))) ≡ true
