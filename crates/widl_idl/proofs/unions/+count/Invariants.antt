use Rattle.std.proofs.Common.{◌≡◌, take, map, min}
use Rattle.widl_idl.specs.Flattened.{nullable_members}
use Rattle.widl_idl.specs.Terms.{packed, type_term}
use Rattle.widl_idl.proofs.unions.+count.Given as goal

abbrev pub invariant-count_members-loop-t : goal.invariant-count_members-loop-t
invariant-count_members-loop-t l = l.count ≡ min (nullable_members (packed (map type_term (take l.t-index l.t-items)))) 4294967295
