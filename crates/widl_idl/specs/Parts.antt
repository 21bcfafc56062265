-- The parts of a definition: its main part, its partial ones, and those that are mixed into it.
-- Source: Web IDL, "Partial definitions", "Interface mixins" and "includes statement".
use Rattle.std.specs.Prelude.{ℕ, Bool, true, false, ◌&&◌, List, [], ◌∷◌, ◌++◌, Option, None, Some, if◌then◌else◌, map, filter, flat_map, bytes_eq}
use Rattle.widl_idl.specs.declared.kind.Kind.{Kind}
use Rattle.widl_idl.specs.declared.kind.Kind.TheVariants as kinds
use Rattle.widl_idl.specs.PlainTrees.{PlainDefinition, PlainDictionaryMember, PlainMember, PlainKind, InterfaceDefinition, MixinDefinition, NamespaceDefinition, DictionaryDefinition, IncludesStatement}
use Rattle.widl_idl.specs.Meanings.{is_text_of, partial_name, meant}

-- the kinds of definitions that may be partial
abbrev pub is_interface : PlainKind → Bool
is_interface (InterfaceDefinition i) = true
is_interface kind = false

abbrev pub is_mixin : PlainKind → Bool
is_mixin (MixinDefinition m) = true
is_mixin kind = false

abbrev pub is_namespace : PlainKind → Bool
is_namespace (NamespaceDefinition n) = true
is_namespace kind = false

abbrev pub is_dictionary : PlainKind → Bool
is_dictionary (DictionaryDefinition d) = true
is_dictionary kind = false

-- the members that stand in one definition of an interface, a mixin or a namespace
abbrev pub members_in : PlainKind → List PlainMember
members_in (InterfaceDefinition i) = i.members
members_in (MixinDefinition m) = m.members
members_in (NamespaceDefinition n) = n.members
members_in kind = []

-- the members that stand in one definition of a dictionary
abbrev pub dictionary_members_in : PlainKind → List PlainDictionaryMember
dictionary_members_in (DictionaryDefinition d) = d.members
dictionary_members_in kind = []

module _ (is_kind : PlainKind → Bool) where
  -- whether a definition is a partial one of the kind with this name
  abbrev pub adds_to : List ℕ → PlainKind → Bool
  adds_to text kind = is_kind kind && is_text_of text (partial_name kind)

  -- a main part of the kind, and then the partial ones of this name in file order
  abbrev pub parts_beside : List PlainDefinition → List ℕ → Option PlainKind → List PlainKind
  parts_beside definitions text None = []
  parts_beside definitions text (Some main) = if is_kind main then main ∷ filter (adds_to text) (map (λ d. d.kind) definitions) else []

  -- the parts of the definition of the kind that the name means; none where it means no such definition
  abbrev pub own_parts : List PlainDefinition → List ℕ → List PlainKind
  own_parts definitions text = parts_beside definitions text (meant definitions text)

-- the parts of the mixin that an includes statement mixes into the interface of this name
abbrev pub parts_mixed_by : List PlainDefinition → List ℕ → PlainKind → List PlainKind
parts_mixed_by definitions text (IncludesStatement i) = if bytes_eq i.interface.text text then own_parts is_mixin definitions i.mixin.text else []
parts_mixed_by definitions text kind = []

-- all that is mixed into the interface of this name, by includes statements in file order
abbrev pub mixed_parts : List PlainDefinition → List ℕ → List PlainKind
mixed_parts definitions text = flat_map (λ d. parts_mixed_by definitions text d.kind) definitions

-- the parts of an interface in merged order: its own, then those that are mixed into it
abbrev pub interface_parts : List PlainDefinition → List ℕ → List PlainKind
interface_parts definitions text = own_parts is_interface definitions text ++ mixed_parts definitions text

-- the parts of the interface, the mixin or the namespace of this name
abbrev pub parts_of : List PlainDefinition → Kind → List ℕ → List PlainKind
parts_of definitions kinds.Interface text = interface_parts definitions text
parts_of definitions kinds.Mixin text = own_parts is_mixin definitions text
parts_of definitions kinds.Namespace text = own_parts is_namespace definitions text
parts_of definitions kind text = []

-- the members of the interface, the mixin or the namespace of this name in merged order
abbrev pub merged_members : List PlainDefinition → Kind → List ℕ → List PlainMember
merged_members definitions kind text = flat_map members_in (parts_of definitions kind text)

-- the members of the dictionary of this name, its own before those of its partials
abbrev pub merged_dictionary_members : List PlainDefinition → List ℕ → List PlainDictionaryMember
merged_dictionary_members definitions text = flat_map dictionary_members_in (own_parts is_dictionary definitions text)
