use Rattle.std.proofs.Common.{◌≡◌, take, map, false}
use Rattle.std.specs.List.{list_any}
use Rattle.widl_idl.specs.Flattened.{flattened_members}
use Rattle.widl_idl.specs.Terms.{packed, type_term}
use Rattle.widl_fits.specs.Fitting.{takes}
use Rattle.widl_fits.proofs.literals.+flattened.Given as goal

abbrev pub invariant-any_member_takes-loop-member : goal.invariant-any_member_takes-loop-member
invariant-any_member_takes-loop-member l = list_any (takes l.tables l.literal) (flattened_members (packed (map type_term (take l.member-index l.member-items)))) ≡ false
