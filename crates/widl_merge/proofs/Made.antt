-- Interfaces, namespaces and dictionaries as they are made.
use Rattle.std.proofs.Common.{◌≡◌, ℕ, List, map, Option, None, Some, option_map, Bor, sym, ap, ◌∙◌}
use Rattle.std.specs.Option.{option_copied}
use Rattle.widl_text.specs.declared.place.Place.{Place}
use Rattle.widl_idl.specs.declared.dictionary.Member.{Member}
use Rattle.widl_idl.specs.declared.kind.Kind.TheVariants as kinds
use Rattle.widl_idl.specs.declared.tree.names.Name.{Name}
use Rattle.widl_idl.specs.PlainTypes.{name_of}
use Rattle.widl_idl.specs.DefinitionTerms.{dict_term, iface_term, member_term, space_term}
use Rattle.widl_idl.specs.MergedList.{dictionary_of, interface_of, namespace_of, parent_number}
use Rattle.widl_idl.specs.MergedMembers.{member_of}
use Rattle.widl_idl.specs.Parts.{merged_dictionary_members, merged_members}
use Rattle.widl_idl.specs.PlainTrees.{PlainContainerOfMembers, PlainDefinition, PlainDictionary, PlainDictionaryMember, PlainInterface}
use Rattle.widl_idl.specs.WrittenLiterals.{name_units}
use Rattle.widl_merge.specs.declared.merged_members.MergedMembers.{MergedMembers}
use Rattle.widl_merge.specs.PutTogether.{ArePutTogether}

pub interface_made : (all : List PlainDefinition) (plain : PlainInterface) (m : MergedMembers) (at : Place) (name : List ℕ) (parent : Option ℕ) → ArePutTogether all (merged_members all kinds.Interface plain.name.text) m → at ≡ plain.name.at → name ≡ name_units plain.name → parent ≡ parent_number all kinds.Interface plain.parent
    → iface_term (record { at = at; name = name; parent = parent; ctors = m.ctors; ops = m.ops; attrs = m.attrs; consts = m.consts; text = m.text; pairs = m.pairs; order = m.order }) ≡ interface_of all plain
interface_made all plain m at name parent put a n p =
    let terms = sym put.terms in
    let ctors = put.ctors in
    let text = put.text in
    let pairs = put.pairs in
    (cc)

pub namespace_made : (all : List PlainDefinition) (plain : PlainContainerOfMembers) (m : MergedMembers) (at : Place) (name : List ℕ) → ArePutTogether all (merged_members all kinds.Namespace plain.name.text) m → at ≡ plain.name.at → name ≡ name_units plain.name
    → space_term (record { at = at; name = name; ops = m.ops; attrs = m.attrs; consts = m.consts; order = m.order }) ≡ namespace_of all plain
namespace_made all plain m at name put a n =
    let terms = sym put.terms in
    (cc)

pub dictionary_made : (all : List PlainDefinition) (plain : PlainDictionary) (list : List PlainDictionaryMember) (members : List Member) (at : Place) (name : List ℕ) (parent : Option ℕ) → map member_term members ≡ map (member_of all) list → list ≡ merged_dictionary_members all plain.name.text → at ≡ plain.name.at → name ≡ name_units plain.name → parent ≡ parent_number all kinds.Dictionary plain.parent
    → dict_term (record { at = at; name = name; parent = parent; members = members }) ≡ dictionary_of all plain
dictionary_made all plain list members at name parent meant same a n p =
    let made : map member_term members ≡ map (member_of all) (merged_dictionary_members all plain.name.text) = meant ∙ ap (map (member_of all)) same in
    (cc)

-- the name of a parent, as the program passes it
pub parent_read : (passed : Option (Bor Name)) (parent : Option Name) → option_copied passed ≡ parent → option_map (λ name. name_of name.now) passed ≡ option_map name_of parent
parent_read None parent e = ap (option_map name_of) e
parent_read (Some name) parent e = ap (option_map name_of) e
