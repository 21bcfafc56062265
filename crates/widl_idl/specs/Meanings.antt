-- The definitions of a set of files, and what names mean among them.
-- Source: Web IDL, "Names" and "IDL fragments".
use Rattle.std.specs.Prelude.{ℕ, ◌+◌, Bool, true, false, List, [], ◌∷◌, Option, None, Some, if◌then◌else◌, slice_get, option_map, option_and_then, flat_map, bytes_eq}
use Rattle.widl_idl.specs.declared.kind.Kind.{Kind}
use Rattle.widl_idl.specs.declared.kind.Kind.TheVariants as kinds
use Rattle.widl_idl.specs.declared.tree.fragments.Fragment.{Fragment}
use Rattle.widl_idl.specs.PlainTypes.{PlainName}
use Rattle.widl_idl.specs.PlainTrees.{PlainDefinition, PlainKind, CallbackFunctionDefinition, CallbackInterfaceDefinition, InterfaceDefinition, MixinDefinition, NamespaceDefinition, DictionaryDefinition, EnumerationDefinition, TypedefDefinition, IncludesStatement, plain_definitions}

-- the definitions of all files, by file, then in the order of the source
abbrev pub definitions_of : List Fragment → List PlainDefinition
definitions_of fragments = flat_map (λ (f : Fragment). plain_definitions f.definitions) fragments

abbrev pub kind_of : PlainKind → Kind
kind_of (CallbackFunctionDefinition c) = kinds.CallbackFunction
kind_of (CallbackInterfaceDefinition c) = kinds.CallbackInterface
kind_of (InterfaceDefinition i) = kinds.Interface
kind_of (MixinDefinition m) = kinds.Mixin
kind_of (NamespaceDefinition n) = kinds.Namespace
kind_of (DictionaryDefinition d) = kinds.Dictionary
kind_of (EnumerationDefinition e) = kinds.Enumeration
kind_of (TypedefDefinition d) = kinds.Typedef
kind_of (IncludesStatement i) = kinds.Includes

abbrev pub same_kind : Kind → Kind → Bool
same_kind kinds.CallbackFunction kinds.CallbackFunction = true
same_kind kinds.CallbackInterface kinds.CallbackInterface = true
same_kind kinds.Interface kinds.Interface = true
same_kind kinds.Mixin kinds.Mixin = true
same_kind kinds.Namespace kinds.Namespace = true
same_kind kinds.Dictionary kinds.Dictionary = true
same_kind kinds.Enumeration kinds.Enumeration = true
same_kind kinds.Typedef kinds.Typedef = true
same_kind kinds.Includes kinds.Includes = true
same_kind kind other = false

-- whether the word `partial` stands before a definition
abbrev pub is_partial : PlainKind → Bool
is_partial (InterfaceDefinition i) = i.partial
is_partial (MixinDefinition m) = m.partial
is_partial (NamespaceDefinition n) = n.partial
is_partial (DictionaryDefinition d) = d.partial
is_partial kind = false

-- the name that a definition declares or adds to; an includes statement has none
abbrev pub declared_name : PlainKind → Option PlainName
declared_name (CallbackFunctionDefinition c) = Some c.name
declared_name (CallbackInterfaceDefinition c) = Some c.name
declared_name (InterfaceDefinition i) = Some i.name
declared_name (MixinDefinition m) = Some m.name
declared_name (NamespaceDefinition n) = Some n.name
declared_name (DictionaryDefinition d) = Some d.name
declared_name (EnumerationDefinition e) = Some e.name
declared_name (TypedefDefinition d) = Some d.name
declared_name (IncludesStatement i) = None

-- the name of a main definition: of one that is no partial and no includes statement
abbrev pub main_name : PlainKind → Option PlainName
main_name kind = if is_partial kind then None else declared_name kind

-- the name of a partial definition
abbrev pub partial_name : PlainKind → Option PlainName
partial_name kind = if is_partial kind then declared_name kind else None

abbrev pub is_text_of : List ℕ → Option PlainName → Bool
is_text_of text None = false
is_text_of text (Some name) = bytes_eq name.text text

-- the number of the first main definition with the name, where these are counted from `number` on
abbrev pub meaning_from : ℕ → List PlainDefinition → List ℕ → Option ℕ
meaning_from number [] text = None
meaning_from number (d ∷ more) text = if is_text_of text (main_name d.kind) then Some number else meaning_from (number + 1) more text

-- the number of the definition that a name means: the first main definition that has it
abbrev pub meaning : List PlainDefinition → List ℕ → Option ℕ
meaning definitions text = meaning_from 0 definitions text

-- the definition that a name means
abbrev pub meant : List PlainDefinition → List ℕ → Option PlainKind
meant definitions text = option_map (λ d. d.kind) (option_and_then (slice_get definitions) (meaning definitions text))

-- the kind of the definition that a name means
abbrev pub meant_kind : List PlainDefinition → List ℕ → Option Kind
meant_kind definitions text = option_map kind_of (meant definitions text)
