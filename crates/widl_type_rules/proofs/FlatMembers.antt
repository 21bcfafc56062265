-- The flattened members of a union are neither nullable nor unions.
use Rattle.std.proofs.Common.{[]}
use Rattle.std.proofs.lemmas.List.Elements.{All-append, All-cons, All-nil}
use Rattle.std.specs.List.{All}
use Rattle.widl_idl.specs.Flattened.{flattened_member, flattened_members, unannotated}
use Rattle.widl_idl.specs.Terms.{TypeTerm, TypeTerms, NullableType, UnionType, no_types, more_types}
use Rattle.widl_type_rules.specs.IndistinguishablePairs.{IsFlat}

mutual
  pub member_flat : (t : TypeTerm) → All IsFlat (flattened_member t)
  member_flat (NullableType t) = member_flat t
  member_flat (UnionType ts) = members_flat ts
  member_flat t = All-cons IsFlat (unannotated t) [] tt (All-nil IsFlat)

  pub members_flat : (ts : TypeTerms) → All IsFlat (flattened_members ts)
  members_flat no_types = All-nil IsFlat
  members_flat (more_types t ts) = All-append IsFlat (flattened_member t) (flattened_members ts) (member_flat t) (members_flat ts)
