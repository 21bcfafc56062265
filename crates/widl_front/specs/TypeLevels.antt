-- How many levels the types have that written types mean.
use Rattle.std.specs.Prelude.{ℕ, ◌+◌, max}
use Rattle.widl_idl.specs.Terms.{TypeTerm, TypeTerms, SequenceType, RecordType, PromiseType, NullableType, UnionType, no_types, more_types}

abbrev mutual
  -- the levels of a type: one, and those of the deepest type inside it, where a `?` is none
  pub levels : TypeTerm → ℕ
  levels (SequenceType t) = levels t + 1
  levels (RecordType key t) = levels t + 1
  levels (PromiseType t) = levels t + 1
  levels (NullableType t) = levels t
  levels (UnionType ts) = most_levels ts + 1
  levels t = 1

  -- those of the deepest of some types
  pub most_levels : TypeTerms → ℕ
  most_levels no_types = 0
  most_levels (more_types t ts) = max (levels t) (most_levels ts)
