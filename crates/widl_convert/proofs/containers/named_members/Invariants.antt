use Rattle.std.proofs.Common.{◌≡◌, ◌++◌, ◌-◌, drop, length}
use Rattle.widl_idl.specs.DefinitionTerms.{defs_term}
use Rattle.widl_value.specs.IdlTerms.{idl_terms, member_terms, packed_members}
use Rattle.widl_steps.specs.Results.{member_items, member_names}
use Rattle.widl_convert.proofs.OutgoingItems.{before}
use Rattle.widl_convert.proofs.containers.named_members.Given as goal

abbrev pub invariant-loop-place : goal.invariant-loop-place
invariant-loop-place l =
    (l.names ++ member_names (defs_term l.defs) (packed_members (drop l.place (member_terms l.members))) ≡ member_names (defs_term l.fn.defs) (packed_members (member_terms l.fn.members)))
    × (before (idl_terms l.items) (member_items (packed_members (drop l.place (member_terms l.members)))) ≡ member_items (packed_members (member_terms l.fn.members)))

abbrev pub decreases-loop-place : goal.decreases-loop-place
decreases-loop-place l = length (member_terms l.members) - l.place
