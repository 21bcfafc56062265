use Rattle.std.proofs.Common.{◌≡◌, take, map, false}
use Rattle.std.specs.List.{list_any}
use Rattle.widl_idl.specs.Flattened.{flattened_members}
use Rattle.widl_idl.specs.Terms.{packed, type_term}
use Rattle.widl_overload.specs.rules.TypeRules.{is_copied}
use Rattle.widl_type_rules.proofs.copied.+flattened.Given as goal

abbrev pub invariant-any_member_copied-loop-member : goal.invariant-any_member_copied-loop-member
invariant-any_member_copied-loop-member l = list_any is_copied (flattened_members (packed (map type_term (take l.member-index l.member-items)))) ≡ false
