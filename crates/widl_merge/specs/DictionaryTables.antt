-- The parts of dictionaries by the number of the definition, as the program keeps them.
use Rattle.std.specs.Prelude.{◌≡◌, ℕ, List, [], ◌∷◌, ◌++◌, map, flat_map, Option, None, Some, option_map, if◌then◌else◌, slice_get, slice_index_or}
use Rattle.std.specs.Borrow.{Bor}
use Rattle.widl_idl.specs.declared.kind.Kind.TheVariants as kinds
use Rattle.widl_idl.specs.declared.tree.definitions.DefinitionKind.{DefinitionKind}
use Rattle.widl_idl.specs.declared.tree.dictionaries.DictionaryMember.{DictionaryMember}
use Rattle.widl_idl.specs.PlainTrees.{PlainDefinition, PlainDictionaryMember, PlainKind, DictionaryDefinition, dictionary_member_of}
use Rattle.widl_idl.specs.MergingRules.{is_number}
use Rattle.widl_idl.specs.Parts.{dictionary_members_in}
use Rattle.widl_names.specs.PartTables.{listed_parts, number_meant}

-- members as definitions see them
abbrev pub listed_members : List (Bor DictionaryMember) → List PlainDictionaryMember
listed_members members = map (λ m. dictionary_member_of m.now) members

-- the number of the dictionary that a partial one adds to
abbrev pub dictionary_extended : List PlainDefinition → PlainKind → Option ℕ
dictionary_extended definitions (DictionaryDefinition d) = if d.partial then number_meant definitions kinds.Dictionary d.name.text else None
dictionary_extended definitions part = None

-- a definition, if it is a partial one of the dictionary of this number
abbrev pub extension_at : List PlainDefinition → ℕ → PlainDefinition → List PlainKind
extension_at definitions number d = if is_number number (dictionary_extended definitions d.kind) then d.kind ∷ [] else []

-- each group has the partial dictionaries that belong to its number
abbrev pub DictionariesGrouped : List (List (Bor DefinitionKind)) → List PlainDefinition → Type 0
DictionariesGrouped groups definitions = (number : ℕ) → listed_parts (slice_index_or groups number []) ≡ flat_map (extension_at definitions number) definitions

-- the members of a definition, if there is one
abbrev pub members_of_part : Option PlainKind → List PlainDictionaryMember
members_of_part None = []
members_of_part (Some part) = dictionary_members_in part

-- the members of the definition of this number, and of its partial ones
abbrev pub members_at : List PlainDefinition → ℕ → List PlainDictionaryMember
members_at definitions number = members_of_part (option_map (λ d. d.kind) (slice_get definitions number)) ++ flat_map dictionary_members_in (flat_map (extension_at definitions number) definitions)
