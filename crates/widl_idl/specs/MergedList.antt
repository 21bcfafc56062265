-- The list of definitions that a set of files declares, with partials and mixins put together and types resolved.
-- Source: Web IDL, "Definitions", "Partial definitions" and "includes statement".
use Rattle.std.specs.Prelude.{ℕ, List, [], map, filter_map, Option, None, Some, if◌then◌else◌}
use Rattle.widl_idl.specs.declared.enumeration.Choice.{Choice}
use Rattle.widl_idl.specs.declared.kind.Kind.{Kind}
use Rattle.widl_idl.specs.declared.kind.Kind.TheVariants as kinds
use Rattle.widl_idl.specs.declared.tree.fragments.Fragment.{Fragment}
use Rattle.widl_idl.specs.PlainTypes.{PlainName}
use Rattle.widl_idl.specs.PlainTrees.{PlainCallback, PlainCallbackInterface, PlainInterface, PlainContainerOfMembers, PlainDictionary, PlainEnumeration, PlainOperation, PlainDefinition, PlainKind, CallbackFunctionDefinition, CallbackInterfaceDefinition, InterfaceDefinition, NamespaceDefinition, DictionaryDefinition, EnumerationDefinition}
use Rattle.widl_idl.specs.DefinitionTerms.{DefsTerm, IfaceTerm, SpaceTerm, DictTerm, CallbackTerm}
use Rattle.widl_idl.specs.Meanings.{definitions_of, meaning}
use Rattle.widl_idl.specs.MergedMembers.{arg_of, sig_of_operation, members_term, constructors_of, stringifier_from, pairs_of, member_of, operations_in, operation_text, first_in}
use Rattle.widl_idl.specs.Parts.{merged_members, merged_dictionary_members}
use Rattle.widl_idl.specs.Terms.{UndefinedType}
use Rattle.widl_idl.specs.WrittenLiterals.{units_of, name_units}
use Rattle.widl_idl.specs.WrittenTypes.{number_among, meaning_alone}

module _ (definitions : List PlainDefinition) where
  -- the number of the definition of the kind that a parent's name means
  abbrev pub number_of_meaning : Kind → Option ℕ → Option ℕ
  number_of_meaning kind None = None
  number_of_meaning kind (Some number) = Some (number_among definitions kind number)

  abbrev pub parent_number : Kind → Option PlainName → Option ℕ
  parent_number kind None = None
  parent_number kind (Some name) = number_of_meaning kind (meaning definitions name.text)

  abbrev pub interface_of : PlainInterface → IfaceTerm
  interface_of i =
      let members = merged_members definitions kinds.Interface i.name.text in
      record {
        at = i.name.at;
        name = name_units i.name;
        parent = parent_number kinds.Interface i.parent;
        ctors = constructors_of definitions members;
        members = members_term definitions members;
        text = stringifier_from 0 members;
        pairs = pairs_of definitions members;
      }

  abbrev pub namespace_of : PlainContainerOfMembers → SpaceTerm
  namespace_of n = record { at = n.name.at; name = name_units n.name; members = members_term definitions (merged_members definitions kinds.Namespace n.name.text) }

  abbrev pub dictionary_of : PlainDictionary → DictTerm
  dictionary_of d = record {
    at = d.name.at;
    name = name_units d.name;
    parent = parent_number kinds.Dictionary d.parent;
    members = map (member_of definitions) (merged_dictionary_members definitions d.name.text);
  }

  abbrev pub enumeration_of : PlainEnumeration → Choice
  enumeration_of e = record { at = e.name.at; name = name_units e.name; values = map (λ v. units_of v.text) e.values }

  abbrev pub callback_of : PlainCallback → CallbackTerm
  callback_of c = record { at = c.name.at; name = name_units c.name; op = []; sig = record { at = c.name.at; args = map (arg_of definitions) c.arguments; returned = meaning_alone definitions c.returned } }

  -- a callback interface by its first operation; without one it has the empty name, no argument, and returns `undefined`
  abbrev pub callback_by : PlainName → Option PlainOperation → CallbackTerm
  callback_by name None = record { at = name.at; name = name_units name; op = []; sig = record { at = name.at; args = []; returned = UndefinedType } }
  callback_by name (Some o) = record { at = name.at; name = name_units name; op = units_of (operation_text o.name); sig = sig_of_operation definitions o }

  abbrev pub callback_interface_of : PlainCallbackInterface → CallbackTerm
  callback_interface_of c = callback_by c.name (first_in (operations_in c.members))

  -- the main definitions of each kind
  abbrev pub interface_if : PlainKind → Option IfaceTerm
  interface_if (InterfaceDefinition i) = if i.partial then None else Some (interface_of i)
  interface_if kind = None

  abbrev pub namespace_if : PlainKind → Option SpaceTerm
  namespace_if (NamespaceDefinition n) = if n.partial then None else Some (namespace_of n)
  namespace_if kind = None

  abbrev pub dictionary_if : PlainKind → Option DictTerm
  dictionary_if (DictionaryDefinition d) = if d.partial then None else Some (dictionary_of d)
  dictionary_if kind = None

  abbrev pub enumeration_if : PlainKind → Option Choice
  enumeration_if (EnumerationDefinition e) = Some (enumeration_of e)
  enumeration_if kind = None

  abbrev pub callback_if : PlainKind → Option CallbackTerm
  callback_if (CallbackFunctionDefinition c) = Some (callback_of c)
  callback_if kind = None

  abbrev pub callback_interface_if : PlainKind → Option CallbackTerm
  callback_interface_if (CallbackInterfaceDefinition c) = Some (callback_interface_of c)
  callback_interface_if kind = None

  -- each kind in the file order of its main definitions
  abbrev pub each_main : {X : Type 0} → (PlainKind → Option X) → List X
  each_main choose = filter_map (λ (d : PlainDefinition). choose d.kind) definitions

  abbrev pub merged_from : DefsTerm
  merged_from = record {
    ifaces = each_main interface_if;
    spaces = each_main namespace_if;
    dicts = each_main dictionary_if;
    choices = each_main enumeration_if;
    callback_fns = each_main callback_if;
    callback_ifaces = each_main callback_interface_if;
  }

-- the merged list of a set of files
abbrev pub merged_list : List Fragment → DefsTerm
merged_list fragments = merged_from (definitions_of fragments)
