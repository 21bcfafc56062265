use Rattle.std.proofs.Common.{◌≡◌, None, take, map}
use Rattle.widl_idl.specs.Flattened.{flattened_members}
use Rattle.widl_idl.specs.Terms.{packed, type_term}
use Rattle.widl_steps.specs.Sequences.{element_among}
use Rattle.widl_convert.proofs.sequence.+element.Given as goal

abbrev pub invariant-element_within_members-loop-member : goal.invariant-element_within_members-loop-member
invariant-element_within_members-loop-member l = element_among (flattened_members (packed (map type_term (take l.member-index l.member-items)))) ≡ None
