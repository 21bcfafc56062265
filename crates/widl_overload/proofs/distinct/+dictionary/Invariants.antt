use Rattle.std.proofs.Common.{◌≡◌, take, map, false}
use Rattle.std.specs.List.{list_any}
use Rattle.widl_idl.specs.Flattened.{flattened_members}
use Rattle.widl_idl.specs.Terms.{packed, type_term}
use Rattle.widl_overload.specs.sets.Distinct.{is_dictionary}
use Rattle.widl_overload.proofs.distinct.+dictionary.Given as goal

abbrev pub invariant-any_member_dictionary-loop-member : goal.invariant-any_member_dictionary-loop-member
invariant-any_member_dictionary-loop-member l = list_any is_dictionary (flattened_members (packed (map type_term (take l.member-index l.member-items)))) ≡ false
