-- How many objects the first store has at most.
-- Source: the bound on the members of a set of files is this program's own.
use Rattle.std.specs.Prelude.{ℕ, ◌+◌, ◌<◌, ◌≤◌, ◌^◌, List, length, sum_by}
use Rattle.widl_idl.specs.DefinitionTerms.{SpaceTerm, defs_term}
use Rattle.widl_idl.specs.Meanings.{definitions_of}
use Rattle.widl_idl.specs.MergedSets.{MergedSet, IsMerged}
use Rattle.widl_idl.specs.PlainTrees.{PlainDefinition, PlainKind, NamespaceDefinition}
use Rattle.widl_store.specs.Realm.{realm_of}
use Rattle.widl_text.specs.Limits.{most_members}

-- what a definition of a namespace counts, be it the main one or a partial one: 1, and 1 for each member
abbrev pub namespace_share : PlainKind → ℕ
namespace_share (NamespaceDefinition n) = 1 + length n.members
namespace_share kind = 0

-- the namespaces, their partials and their members, together
abbrev pub namespace_shares : List PlainDefinition → ℕ
namespace_shares definitions = sum_by (λ (d : PlainDefinition). namespace_share d.kind) definitions

-- how many objects there are before a script begins
abbrev pub first_objects : MergedSet → ℕ
first_objects set = length (realm_of (defs_term set.defs)).objects

-- beside the 18 that are always there the objects are no more than the namespaces, their partials and their members
abbrev pub AreWithinShares : Type 0
AreWithinShares = (set : MergedSet) → IsMerged set.defs set.fragments → first_objects set ≤ 18 + namespace_shares (definitions_of set.fragments)

-- merging keeps these together within its limit
abbrev pub AreSharesKept : Type 0
AreSharesKept = (set : MergedSet) → IsMerged set.defs set.fragments → namespace_shares (definitions_of set.fragments) ≤ most_members

-- so there are at most as many, and the 18
abbrev pub AreFewObjects : Type 0
AreFewObjects = (set : MergedSet) → IsMerged set.defs set.fragments → first_objects set ≤ 18 + most_members

-- how many objects stand for a namespace: its own, and one for each operation name
abbrev pub objects_for : SpaceTerm → ℕ
objects_for space = 1 + length space.members.ops

-- 32 bits can number those of these namespaces after so many others
abbrev pub HasRoom : ℕ → List SpaceTerm → Type 0
HasRoom id spaces = id + sum_by objects_for spaces < 2 ^ 32
