-- Where types are written: each type of a set of files, also one inside another, with what it is the type of.
-- Source: Web IDL, "Types", "Annotated types" and "Members".
use Rattle.std.specs.Prelude.{List, [], ◌∷◌, ◌++◌, Option, None, Some, flat_map}
use Rattle.widl_text.specs.declared.place.Place.{Place}
use Rattle.widl_idl.specs.PlainTypes.{PlainAttribute, PlainForm, PlainType, PlainAnnotated, PlainMembers, PlainContainer, PlainRecord, PlainPromise, PlainUnion, plain_type, plain_annotated, no_plain, more_plain}
use Rattle.widl_idl.specs.PlainTrees.{PlainArgument, PlainMember, PlainMemberKind, ConstantMember, AttributeMember, OperationMember, ConstructorMember, StringifierMember, IterableMember, AsyncIterableMember, MaplikeMember, SetlikeMember, PlainDictionaryMember, PlainDefinition, PlainKind, CallbackFunctionDefinition, CallbackInterfaceDefinition, InterfaceDefinition, MixinDefinition, NamespaceDefinition, DictionaryDefinition, EnumerationDefinition, TypedefDefinition, IncludesStatement}
use Rattle.widl_idl.specs.Terms.{TypeTerm}
use Rattle.widl_idl.specs.WrittenTypes.{meaning_of_type, notes_of}
use Rattle.widl_overload.specs.declared.type_role.TypeRole.{TypeRole}
use Rattle.widl_overload.specs.declared.type_role.TypeRole.TheVariants as role

-- a type as it is written: what it is the type of, the extended attributes that belong to it, where its first token stands with those of them that are its own, and the type
pub record TypeUse : Type 0 where
  pub role : TypeRole
  pub attributes : List PlainAttribute
  pub first : Place
  pub ty : PlainType

-- where the first token of a type stands after its extended attributes
abbrev pub type_place : PlainType → Place
type_place (plain_type at form question) = at

abbrev mutual
  -- the types inside a type
  pub uses_in_form : PlainForm → List TypeUse
  uses_in_form (PlainContainer container inner) = uses_of_annotated role.Inner [] inner
  uses_in_form (PlainRecord key inner) = uses_of_annotated role.Inner [] inner
  uses_in_form (PlainPromise inner) = uses_of_plain role.Promised inner
  uses_in_form (PlainUnion members) = uses_of_union members
  uses_in_form form = []

  -- a type without extended attributes of its own, and those inside it
  pub uses_of_plain : TypeRole → PlainType → List TypeUse
  uses_of_plain as_role (plain_type at form question) = record { role = as_role; attributes = []; first = at; ty = plain_type at form question } ∷ uses_in_form form

  -- a type after these extended attributes of the node that it is the type of and after its own, and those inside it
  pub uses_of_annotated : TypeRole → List PlainAttribute → PlainAnnotated → List TypeUse
  uses_of_annotated as_role outer (plain_annotated first own (plain_type at form question)) = record { role = as_role; attributes = outer ++ own; first = first; ty = plain_type at form question } ∷ uses_in_form form

  pub uses_of_union : PlainMembers → List TypeUse
  uses_of_union no_plain = []
  uses_of_union (more_plain member more) = uses_of_annotated role.UnionMember [] member ++ uses_of_union more

abbrev pub uses_of_optional : Option PlainAnnotated → List TypeUse
uses_of_optional None = []
uses_of_optional (Some ty) = uses_of_annotated role.Inner [] ty

abbrev pub uses_of_argument : PlainArgument → List TypeUse
uses_of_argument a = uses_of_annotated role.Argument a.attributes a.ty

abbrev pub uses_of_arguments : List PlainArgument → List TypeUse
uses_of_arguments arguments = flat_map uses_of_argument arguments

abbrev pub uses_of_optional_arguments : Option (List PlainArgument) → List TypeUse
uses_of_optional_arguments None = []
uses_of_optional_arguments (Some arguments) = uses_of_arguments arguments

-- the types of a member, which has these extended attributes; those before an attribute belong to its type
abbrev pub uses_of_member_kind : List PlainAttribute → PlainMemberKind → List TypeUse
uses_of_member_kind attributes (ConstantMember c) = uses_of_plain role.Constant c.ty
uses_of_member_kind attributes (AttributeMember a) = uses_of_annotated role.Attribute attributes a.ty
uses_of_member_kind attributes (OperationMember o) = uses_of_plain role.Returned o.returned ++ uses_of_arguments o.arguments
uses_of_member_kind attributes (ConstructorMember c) = uses_of_arguments c.arguments
uses_of_member_kind attributes (StringifierMember s) = []
uses_of_member_kind attributes (IterableMember i) = uses_of_annotated role.Inner [] i.first ++ uses_of_optional i.second
uses_of_member_kind attributes (AsyncIterableMember i) = uses_of_annotated role.Inner [] i.first ++ (uses_of_optional i.second ++ uses_of_optional_arguments i.arguments)
uses_of_member_kind attributes (MaplikeMember m) = uses_of_annotated role.Inner [] m.key ++ uses_of_annotated role.Inner [] m.value
uses_of_member_kind attributes (SetlikeMember s) = uses_of_annotated role.Inner [] s.value

abbrev pub uses_of_member : PlainMember → List TypeUse
uses_of_member m = uses_of_member_kind m.attributes m.kind

abbrev pub uses_of_dictionary_member : PlainDictionaryMember → List TypeUse
uses_of_dictionary_member m = uses_of_annotated role.DictionaryMember m.attributes m.ty

abbrev pub uses_in_definition : PlainKind → List TypeUse
uses_in_definition (CallbackFunctionDefinition c) = uses_of_plain role.Returned c.returned ++ uses_of_arguments c.arguments
uses_in_definition (CallbackInterfaceDefinition c) = flat_map uses_of_member c.members
uses_in_definition (InterfaceDefinition i) = flat_map uses_of_member i.members
uses_in_definition (MixinDefinition m) = flat_map uses_of_member m.members
uses_in_definition (NamespaceDefinition n) = flat_map uses_of_member n.members
uses_in_definition (DictionaryDefinition d) = flat_map uses_of_dictionary_member d.members
uses_in_definition (EnumerationDefinition e) = []
uses_in_definition (TypedefDefinition d) = uses_of_annotated role.Inner [] d.ty
uses_in_definition (IncludesStatement i) = []

-- all types that are written in these definitions
abbrev pub type_uses_of : List PlainDefinition → List TypeUse
type_uses_of definitions = flat_map (λ (d : PlainDefinition). uses_in_definition d.kind) definitions

-- what a type means where it is used
abbrev pub meaning_of_use : List PlainDefinition → TypeUse → TypeTerm
meaning_of_use definitions u = meaning_of_type definitions (notes_of u.attributes) u.ty
