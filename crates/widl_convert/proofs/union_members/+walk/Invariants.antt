use Rattle.std.proofs.Common.{◌≡◌, ◌-◌, None, length, map, slice_get, take}
use Rattle.widl_idl.specs.Flattened.{flattened_members}
use Rattle.widl_idl.specs.Terms.{packed, type_term}
use Rattle.widl_convert.proofs.union_members.+walk.Given as goal

abbrev pub invariant-walk_among-loop-member : goal.invariant-walk_among-loop-member
invariant-walk_among-loop-member l = record {
  none : slice_get (flattened_members (packed (map type_term (take l.member-index l.member-items)))) l.fn.left ≡ None;
  so_far : l.still ≡ l.fn.left - length (flattened_members (packed (map type_term (take l.member-index l.member-items))));
}
