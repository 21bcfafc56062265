use Rattle.std.proofs.Common.{◌≡◌, take, map, true}
use Rattle.std.specs.List.{list_all}
use Rattle.widl_idl.specs.DefinitionTerms.{iface_term}
use Rattle.widl_idl.specs.Terms.{type_term}
use Rattle.widl_overload.specs.sets.Distinct.{distinguishable}
use Rattle.widl_overload.specs.sets.Pairs.{apart_from}
use Rattle.widl_overload.proofs.distinct.+rules.Given as goal

abbrev pub invariant-each_apart_from-loop-member : goal.invariant-each_apart_from-loop-member
invariant-each_apart_from-loop-member l = list_all (apart_from (map iface_term l.ifaces) (map type_term l.others)) (map type_term (take l.member-index l.member-items)) ≡ true

abbrev pub invariant-each_apart_from-loop-other : goal.invariant-each_apart_from-loop-other
invariant-each_apart_from-loop-other l = list_all (distinguishable (map iface_term l.ifaces) (type_term l.member)) (map type_term (take l.other-index l.others)) ≡ true
