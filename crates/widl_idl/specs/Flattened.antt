-- The member types of unions.
use Rattle.std.specs.Prelude.{ℕ, ◌+◌, ◌++◌, Bool, true, false, List, [], ◌∷◌, nat_eq}
use Rattle.widl_idl.specs.declared.int_kind.Mode.TheVariants.{Wrap}
use Rattle.widl_idl.specs.Terms.{TypeTerm, TypeTerms, IntegerType, StringType, NullableType, UnionType, no_types, more_types}

abbrev pub IsUnion : TypeTerm → Type 0
IsUnion (UnionType ts) = Unit {0}
IsUnion t = ⊥

-- a type without its annotation (Web IDL, "Annotated types")
abbrev pub unannotated : TypeTerm → TypeTerm
unannotated (IntegerType kind mode) = IntegerType kind Wrap
unannotated (StringType kind null_empty) = StringType kind false
unannotated t = t

abbrev mutual
  -- the flattened member types of a union with these members, in order (Web IDL, "flattened member types")
  pub flattened_members : TypeTerms → List TypeTerm
  flattened_members no_types = []
  flattened_members (more_types t ts) = flattened_member t ++ flattened_members ts

  -- of one member: without its annotation, then without nullable, a union gives its own flattened members, and any other type itself
  pub flattened_member : TypeTerm → List TypeTerm
  flattened_member (NullableType t) = flattened_member t
  flattened_member (UnionType ts) = flattened_members ts
  flattened_member t = unannotated t ∷ []

abbrev mutual
  -- how many of a union's members are nullable, and of those of its inner unions, also of one under a nullable (Web IDL, "number of nullable member types")
  pub nullable_members : TypeTerms → ℕ
  nullable_members no_types = 0
  nullable_members (more_types t ts) = nullable_one t + inner_nullable_members t + nullable_members ts

  pub inner_nullable_members : TypeTerm → ℕ
  inner_nullable_members (NullableType t) = inner_nullable_members t
  inner_nullable_members (UnionType ts) = nullable_members ts
  inner_nullable_members t = 0

  pub nullable_one : TypeTerm → ℕ
  nullable_one (NullableType t) = 1
  nullable_one t = 0

-- whether a type includes a nullable type (Web IDL, "includes a nullable type")
abbrev pub includes_nullable_type : TypeTerm → Bool
includes_nullable_type (NullableType t) = true
includes_nullable_type (UnionType ts) = nat_eq (nullable_members ts) 1
includes_nullable_type t = false
