-- For proofs alone. The six lists of definitions while they are made, a definition at a time.
use Rattle.std.specs.Prelude.{◌≡◌, ℕ, List, ◌++◌, filter_map, map, option_to_list, Option, Some}
use Rattle.widl_idl.specs.declared.defs.Defs.{Defs}
use Rattle.widl_idl.specs.declared.enumeration.Choice.{Choice}
use Rattle.widl_idl.specs.declared.kind.Kind.{Kind}
use Rattle.widl_idl.specs.declared.merging_rule.MergingRule.{MergingRule}
use Rattle.widl_idl.specs.declared.violation.Violation.{Violation}
use Rattle.widl_idl.specs.DefinitionTerms.{DefsTerm, callback_term, defs_term, dict_term, iface_term, space_term}
use Rattle.widl_idl.specs.Meanings.{kind_of, main_name, meaning, meant_kind}
use Rattle.widl_idl.specs.MergedList.{callback_if, callback_interface_if, dictionary_if, enumeration_if, interface_if, namespace_if}
use Rattle.widl_idl.specs.MergingRules.{BreaksMerging, parent_of}
use Rattle.widl_idl.specs.PlainTypes.{PlainName}
use Rattle.widl_idl.specs.PlainTrees.{PlainDefinition, PlainKind}

-- no rule of merging is broken anywhere
abbrev pub AreKept : List PlainDefinition → Type 0
AreKept definitions = (rule : MergingRule) (s : Violation) → BreaksMerging definitions rule s → ⊥

-- a parent, if there is one and its name has a meaning, is of this kind
abbrev pub HasParentOf : List PlainDefinition → Kind → Option PlainName → Type 0
HasParentOf definitions kind parent = (name : PlainName) → parent ≡ Some name → (other : Kind) → meant_kind definitions name.text ≡ Some other → other ≡ kind

-- the text means the definition of this number, and that is of this kind
pub record Means (definitions : List PlainDefinition) (text : List ℕ) (number : ℕ) (kind : Kind) : Type 0 where
  pub means : meaning definitions text ≡ Some number
  pub of_kind : meant_kind definitions text ≡ Some kind

-- the name of a definition of this number means it, if it is a main one, and its parent is of its kind
pub record MeansItself (definitions : List PlainDefinition) (number : ℕ) (kind : PlainKind) : Type 0 where
  pub itself : (name : PlainName) → main_name kind ≡ Some name → Means definitions name.text number (kind_of kind)
  pub parent : HasParentOf definitions (kind_of kind) (parent_of kind)

-- a list has one item more at its end, if one is found
abbrev pub Adds : {X Y : Type 0} → (X → Y) → Option Y → List X → List X → Type 0
Adds term found old new = map term new ≡ map term old ++ option_to_list found

-- a definition is added to the list of its kind, if it is a main one
pub record Grows (definitions : List PlainDefinition) (kind : PlainKind) (old new : Defs) : Type 0 where
  pub ifaces : Adds iface_term (interface_if definitions kind) old.ifaces new.ifaces
  pub spaces : Adds space_term (namespace_if definitions kind) old.spaces new.spaces
  pub dicts : Adds dict_term (dictionary_if definitions kind) old.dicts new.dicts
  pub choices : Adds (λ (c : Choice). c) (enumeration_if definitions kind) old.choices new.choices
  pub callback_fns : Adds callback_term (callback_if definitions kind) old.callback_fns new.callback_fns
  pub callback_ifaces : Adds callback_term (callback_interface_if definitions kind) old.callback_ifaces new.callback_ifaces

-- the merged list of some of the definitions
abbrev pub merged_among : List PlainDefinition → List PlainDefinition → DefsTerm
merged_among definitions some = record {
  ifaces = filter_map (λ (d : PlainDefinition). interface_if definitions d.kind) some;
  spaces = filter_map (λ (d : PlainDefinition). namespace_if definitions d.kind) some;
  dicts = filter_map (λ (d : PlainDefinition). dictionary_if definitions d.kind) some;
  choices = filter_map (λ (d : PlainDefinition). enumeration_if definitions d.kind) some;
  callback_fns = filter_map (λ (d : PlainDefinition). callback_if definitions d.kind) some;
  callback_ifaces = filter_map (λ (d : PlainDefinition). callback_interface_if definitions d.kind) some;
}

-- the list is that of some of the definitions
abbrev pub AreListed : List PlainDefinition → List PlainDefinition → Defs → Type 0
AreListed definitions some defs = defs_term defs ≡ merged_among definitions some
