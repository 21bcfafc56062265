use Rattle.std.proofs.Common.{◌≡◌, take, map}
use Rattle.std.specs.List.{filter_map}
use Rattle.widl_idl.specs.Terms.{type_term}
use Rattle.widl_overload.specs.sets.Distinct.{category}
use Rattle.widl_type_rules.specs.IndistinguishablePairs.{interface_number}
use Rattle.widl_type_rules.proofs.indistinguishable_members.interface_numbers.Given as goal

abbrev pub invariant-loop-t : goal.invariant-loop-t
invariant-loop-t l = l.numbers.items ≡ filter_map interface_number (map category (map type_term (take l.t-index l.t-items)))
