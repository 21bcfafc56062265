use Rattle.std.proofs.Common.{◌≡◌, None, take, map}
use Rattle.widl_idl.specs.Flattened.{flattened_members}
use Rattle.widl_idl.specs.Terms.{packed, type_term}
use Rattle.widl_steps.specs.Defaults.{enumeration_among}
use Rattle.widl_convert.proofs.defaults.+enumeration.Given as goal

abbrev pub invariant-enumeration_among-loop-member : goal.invariant-enumeration_among-loop-member
invariant-enumeration_among-loop-member l = enumeration_among (flattened_members (packed (map type_term (take l.member-index l.member-items)))) ≡ None
