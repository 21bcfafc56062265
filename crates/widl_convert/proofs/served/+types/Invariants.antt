use Rattle.std.proofs.Common.{◌≡◌, take, map, true}
use Rattle.widl_idl.specs.Terms.{packed, type_term}
use Rattle.widl_convert.specs.Served.{are_served_types}
use Rattle.widl_convert.proofs.served.+types.Given as goal

abbrev pub invariant-are_served_types-loop-member : goal.invariant-are_served_types-loop-member
invariant-are_served_types-loop-member l = are_served_types (packed (map type_term (take l.member-index l.member-items))) ≡ true
