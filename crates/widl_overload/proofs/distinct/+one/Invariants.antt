use Rattle.std.proofs.Common.{◌≡◌, take, map, true}
use Rattle.std.specs.List.{list_all}
use Rattle.widl_idl.specs.DefinitionTerms.{iface_term}
use Rattle.widl_idl.specs.Flattened.{flattened_members}
use Rattle.widl_idl.specs.Terms.{packed, type_term}
use Rattle.widl_overload.specs.sets.Pairs.{is_apart}
use Rattle.widl_overload.proofs.distinct.+one.Given as goal

abbrev pub invariant-apart_from_all_members-loop-member : goal.invariant-apart_from_all_members-loop-member
invariant-apart_from_all_members-loop-member l = list_all (is_apart (map iface_term l.ifaces) l.c) (flattened_members (packed (map type_term (take l.member-index l.member-items)))) ≡ true
