use Rattle.std.proofs.Common.{◌≡◌, length}
use Rattle.std.specs.List.{list_any}
use Rattle.widl_idl.specs.DefinitionTerms.{defs_term}
use Rattle.widl_tables.specs.MemberOrder.{DeclaredMember}
use Rattle.widl_steps.specs.Dictionaries.{requires_member}
use Rattle.widl_convert.specs.Members.{members_left}
use Rattle.widl_convert.proofs.members_left.requires_member.Given as goal

abbrev pub invariant-loop-at : goal.invariant-loop-at
invariant-loop-at l = requires_member (defs_term l.tables.defs) l.dictionary ≡ list_any (λ (m : DeclaredMember). m.member.needed) (members_left (defs_term l.tables.defs) l.left)

abbrev pub decreases-loop-at : goal.decreases-loop-at
decreases-loop-at l = length (members_left (defs_term l.tables.defs) l.left)
