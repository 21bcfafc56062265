-- The parts of definitions by the number of the definition, as the program keeps them: of the parts only those that have members.
use Rattle.std.specs.Prelude.{if◌then◌else◌, ◌≡◌, ℕ, Bool, true, false, not, List, [], ◌∷◌, ◌++◌, length, map, filter, flat_map, Option, None, Some, option_map, option_to_list, nat_eq, slice_get, slice_index_or}
use Rattle.std.specs.Borrow.{Bor}
use Rattle.widl_idl.specs.declared.kind.Kind.{Kind}
use Rattle.widl_idl.specs.declared.kind.Kind.TheVariants as kinds
use Rattle.widl_idl.specs.declared.tree.definitions.DefinitionKind.{DefinitionKind}
use Rattle.widl_idl.specs.PlainTypes.{PlainName}
use Rattle.widl_idl.specs.PlainTrees.{PlainDefinition, PlainKind, IncludesStatement, definition_kind_of}
use Rattle.widl_idl.specs.Meanings.{kind_of, meaning, meant_kind, partial_name}
use Rattle.widl_idl.specs.MergingRules.{is_kind, is_number}
use Rattle.widl_idl.specs.Parts.{members_in, parts_of}

-- parts as definitions see them
abbrev pub listed_parts : List (Bor DefinitionKind) → List PlainKind
listed_parts parts = map (λ k. definition_kind_of k.now) parts

-- whether a part has members
abbrev pub has_members : PlainKind → Bool
has_members part = not (nat_eq (length (members_in part)) 0)

-- whether the name of a definition of this number means it
abbrev pub means_itself : List PlainDefinition → ℕ → Option PlainName → Bool
means_itself definitions number None = false
means_itself definitions number (Some name) = is_number number (meaning definitions name.text)

-- the number of the definition of the kind that a name means
abbrev pub number_meant : List PlainDefinition → Kind → List ℕ → Option ℕ
number_meant definitions kind text = if is_kind kind (meant_kind definitions text) then meaning definitions text else None

abbrev pub number_named : List PlainDefinition → Kind → Option PlainName → Option ℕ
number_named definitions kind None = None
number_named definitions kind (Some name) = number_meant definitions kind name.text

-- the number of the definition that a partial one with members adds to
abbrev pub owner_of : List PlainDefinition → PlainKind → Option ℕ
owner_of definitions part = if has_members part then number_named definitions (kind_of part) (partial_name part) else None

-- a definition, if it is a partial one with members of the definition of this number
abbrev pub partial_at : List PlainDefinition → ℕ → PlainDefinition → List PlainKind
partial_at definitions number d = if is_number number (owner_of definitions d.kind) then d.kind ∷ [] else []

-- the number of the interface that an includes statement mixes into
abbrev pub mixes_into : List PlainDefinition → PlainKind → Option ℕ
mixes_into definitions (IncludesStatement i) = number_meant definitions kinds.Interface i.interface.text
mixes_into definitions kind = None

-- the number of the mixin that an includes statement mixes in
abbrev pub mixes_in : List PlainDefinition → PlainKind → List ℕ
mixes_in definitions (IncludesStatement i) = option_to_list (number_meant definitions kinds.Mixin i.mixin.text)
mixes_in definitions kind = []

-- the number of the mixin that a definition mixes into the interface of this number, if it is an includes statement
abbrev pub mixin_at : List PlainDefinition → ℕ → PlainDefinition → List ℕ
mixin_at definitions number d = if is_number number (mixes_into definitions d.kind) then mixes_in definitions d.kind else []

-- a part, if it has members
abbrev pub part_kept : Option PlainKind → List PlainKind
part_kept None = []
part_kept (Some part) = if has_members part then part ∷ [] else []

-- the definition of this number and its partial ones, where they have members
abbrev pub own_at : List PlainDefinition → ℕ → List PlainKind
own_at definitions number = part_kept (option_map (λ d. d.kind) (slice_get definitions number)) ++ flat_map (partial_at definitions number) definitions

-- the same, and then those of the mixins that are mixed into it
abbrev pub listed_at : List PlainDefinition → ℕ → List PlainKind
listed_at definitions number = own_at definitions number ++ flat_map (own_at definitions) (flat_map (mixin_at definitions number) definitions)

-- a list is put after the group of the owner, if there is one
pub record Puts {X : Type 0} (old new : List (List X)) (owner : Option ℕ) (added : List X) : Type 0 where
  pub size : length new ≡ length old
  pub each : (number : ℕ) → slice_index_or new number [] ≡ slice_index_or old number [] ++ (if is_number number owner then added else [])

-- each group has what belongs to its number
pub record Grouped {X Y : Type 0} (read : X → Y) (part : ℕ → PlainDefinition → List Y) (groups : List (List X)) (definitions : List PlainDefinition) (count : ℕ) : Type 0 where
  pub size : length groups ≡ count
  pub each : (number : ℕ) → map read (slice_index_or groups number []) ≡ flat_map (part number) definitions

abbrev pub PartialsGrouped : List (List (Bor DefinitionKind)) → List PlainDefinition → Type 0
PartialsGrouped groups definitions = (number : ℕ) → listed_parts (slice_index_or groups number []) ≡ flat_map (partial_at definitions number) definitions

abbrev pub MixinsGrouped : List (List ℕ) → List PlainDefinition → Type 0
MixinsGrouped groups definitions = (number : ℕ) → slice_index_or groups number [] ≡ flat_map (mixin_at definitions number) definitions

-- the kinds of definitions that have operations
abbrev pub has_parts : Kind → Bool
has_parts kinds.Interface = true
has_parts kinds.Mixin = true
has_parts kinds.Namespace = true
has_parts kind = false

-- the list has the parts with members of the definition that a name means, if that is the one of this number
abbrev pub ListsParts : List PlainDefinition → ℕ → List PlainKind → Type 0
ListsParts definitions number parts =
    (text : List ℕ) (kind : Kind) → meaning definitions text ≡ Some number → meant_kind definitions text ≡ Some kind → has_parts kind ≡ true → parts ≡ filter has_members (parts_of definitions kind text)
