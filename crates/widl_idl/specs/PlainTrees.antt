-- The trees of files as plain terms: what they say, without the places in memory of their parts.
use Rattle.std.specs.Prelude.{ℕ, Bool, Option, List, map, option_map}
use Rattle.widl_text.specs.declared.place.Place.{Place}
use Rattle.widl_idl.specs.declared.tree.arguments.Argument.{Argument}
use Rattle.widl_idl.specs.declared.tree.arguments.ArgumentKind.{ArgumentKind}
use Rattle.widl_idl.specs.declared.tree.arguments.ArgumentKind.TheVariants as argument_kind
use Rattle.widl_idl.specs.declared.tree.constants.Constant.{Constant}
use Rattle.widl_idl.specs.declared.tree.definitions.Definition.{Definition}
use Rattle.widl_idl.specs.declared.tree.definitions.DefinitionKind.{DefinitionKind}
use Rattle.widl_idl.specs.declared.tree.definitions.DefinitionKind.TheVariants as kind
use Rattle.widl_idl.specs.declared.tree.dictionaries.DictionaryMember.{DictionaryMember}
use Rattle.widl_idl.specs.declared.tree.enumerations.EnumerationValue.{EnumerationValue}
use Rattle.widl_idl.specs.declared.tree.iterables.AsyncIterable.{AsyncIterable}
use Rattle.widl_idl.specs.declared.tree.iterables.AsyncWord.{AsyncWord}
use Rattle.widl_idl.specs.declared.tree.iterables.Iterable.{Iterable}
use Rattle.widl_idl.specs.declared.tree.iterables.Maplike.{Maplike}
use Rattle.widl_idl.specs.declared.tree.iterables.Setlike.{Setlike}
use Rattle.widl_idl.specs.declared.tree.members.Attribute.{Attribute}
use Rattle.widl_idl.specs.declared.tree.members.AttributeKind.{AttributeKind}
use Rattle.widl_idl.specs.declared.tree.members.Constructor.{Constructor}
use Rattle.widl_idl.specs.declared.tree.members.Member.{Member}
use Rattle.widl_idl.specs.declared.tree.members.MemberKind.{MemberKind}
use Rattle.widl_idl.specs.declared.tree.members.MemberKind.TheVariants as member_kind
use Rattle.widl_idl.specs.declared.tree.operations.Operation.{Operation}
use Rattle.widl_idl.specs.declared.tree.operations.OperationKind.{OperationKind}
use Rattle.widl_idl.specs.PlainTypes.{PlainName, PlainAttribute, PlainLiteral, PlainType, PlainAnnotated, name_of, attribute_of, literal_of, written_default, type_of, annotated_of}

-- whether a call may leave an argument out, with its default value, or repeat it, with the place of its ellipsis
pub data PlainArgumentKind : Type 0 where
  RequiredArgument : PlainArgumentKind
  OptionalArgument : Option PlainLiteral → PlainArgumentKind
  VariadicArgument : Place → PlainArgumentKind

pub record PlainArgument : Type 0 where
  pub attributes : List PlainAttribute
  pub kind : PlainArgumentKind
  pub ty : PlainAnnotated
  pub name : PlainName

pub record PlainConstant : Type 0 where
  pub at : Place
  pub ty : PlainType
  pub name : PlainName
  pub value : PlainLiteral

pub record PlainAttributeMember : Type 0 where
  pub kind : AttributeKind
  pub readonly : Bool
  pub ty : PlainAnnotated
  pub name : PlainName

pub record PlainOperation : Type 0 where
  pub kind : OperationKind
  pub returned : PlainType
  pub name : Option PlainName
  pub open_place : Place
  pub arguments : List PlainArgument

pub record PlainConstructor : Type 0 where
  pub at : Place
  pub arguments : List PlainArgument

pub record PlainIterable : Type 0 where
  pub at : Place
  pub first : PlainAnnotated
  pub second : Option PlainAnnotated

pub record PlainAsyncIterable : Type 0 where
  pub at : Place
  pub word : AsyncWord
  pub first : PlainAnnotated
  pub second : Option PlainAnnotated
  pub arguments : Option (List PlainArgument)

pub record PlainMaplike : Type 0 where
  pub at : Place
  pub readonly : Bool
  pub key : PlainAnnotated
  pub value : PlainAnnotated

pub record PlainSetlike : Type 0 where
  pub at : Place
  pub readonly : Bool
  pub value : PlainAnnotated

pub data PlainMemberKind : Type 0 where
  ConstantMember : PlainConstant → PlainMemberKind
  AttributeMember : PlainAttributeMember → PlainMemberKind
  OperationMember : PlainOperation → PlainMemberKind
  ConstructorMember : PlainConstructor → PlainMemberKind
  StringifierMember : Place → PlainMemberKind
  IterableMember : PlainIterable → PlainMemberKind
  AsyncIterableMember : PlainAsyncIterable → PlainMemberKind
  MaplikeMember : PlainMaplike → PlainMemberKind
  SetlikeMember : PlainSetlike → PlainMemberKind

-- a member with the extended attributes before it
pub record PlainMember : Type 0 where
  pub attributes : List PlainAttribute
  pub kind : PlainMemberKind

pub record PlainCallback : Type 0 where
  pub name : PlainName
  pub returned : PlainType
  pub arguments : List PlainArgument

pub record PlainCallbackInterface : Type 0 where
  pub name : PlainName
  pub members : List PlainMember

pub record PlainInterface : Type 0 where
  pub partial : Bool
  pub name : PlainName
  pub parent : Option PlainName
  pub members : List PlainMember

-- a mixin or a namespace
pub record PlainContainerOfMembers : Type 0 where
  pub partial : Bool
  pub name : PlainName
  pub members : List PlainMember

pub record PlainDictionaryMember : Type 0 where
  pub attributes : List PlainAttribute
  pub needed : Bool
  pub ty : PlainAnnotated
  pub name : PlainName
  pub default : Option PlainLiteral

pub record PlainDictionary : Type 0 where
  pub partial : Bool
  pub name : PlainName
  pub parent : Option PlainName
  pub members : List PlainDictionaryMember

pub record PlainEnumerationValue : Type 0 where
  pub at : Place
  pub text : List ℕ

pub record PlainEnumeration : Type 0 where
  pub name : PlainName
  pub values : List PlainEnumerationValue
  pub trailing_comma : Bool

pub record PlainTypedef : Type 0 where
  pub ty : PlainAnnotated
  pub name : PlainName

pub record PlainIncludes : Type 0 where
  pub interface : PlainName
  pub mixin : PlainName

pub data PlainKind : Type 0 where
  CallbackFunctionDefinition : PlainCallback → PlainKind
  CallbackInterfaceDefinition : PlainCallbackInterface → PlainKind
  InterfaceDefinition : PlainInterface → PlainKind
  MixinDefinition : PlainContainerOfMembers → PlainKind
  NamespaceDefinition : PlainContainerOfMembers → PlainKind
  DictionaryDefinition : PlainDictionary → PlainKind
  EnumerationDefinition : PlainEnumeration → PlainKind
  TypedefDefinition : PlainTypedef → PlainKind
  IncludesStatement : PlainIncludes → PlainKind

-- a definition with the extended attributes before it
pub record PlainDefinition : Type 0 where
  pub attributes : List PlainAttribute
  pub kind : PlainKind

abbrev pub argument_kind_of : ArgumentKind → PlainArgumentKind
argument_kind_of argument_kind.Required = RequiredArgument
argument_kind_of (argument_kind.Optional default) = OptionalArgument (written_default default)
argument_kind_of (argument_kind.Variadic ellipsis) = VariadicArgument ellipsis

abbrev pub argument_of : Argument → PlainArgument
argument_of a = record { attributes = map attribute_of a.attributes; kind = argument_kind_of a.kind; ty = annotated_of a.ty; name = name_of a.name }

abbrev pub arguments_of : List Argument → List PlainArgument
arguments_of arguments = map argument_of arguments

abbrev pub constant_of : Constant → PlainConstant
constant_of c = record { at = c.at; ty = type_of c.ty; name = name_of c.name; value = literal_of c.value }

abbrev pub attribute_member_of : Attribute → PlainAttributeMember
attribute_member_of a = record { kind = a.kind; readonly = a.readonly; ty = annotated_of a.ty; name = name_of a.name }

abbrev pub operation_of : Operation → PlainOperation
operation_of o = record { kind = o.kind; returned = type_of o.result; name = option_map name_of o.name; open_place = o.open; arguments = arguments_of o.arguments }

abbrev pub constructor_of : Constructor → PlainConstructor
constructor_of c = record { at = c.at; arguments = arguments_of c.arguments }

abbrev pub iterable_of : Iterable → PlainIterable
iterable_of i = record { at = i.at; first = annotated_of i.first; second = option_map annotated_of i.second }

abbrev pub async_iterable_of : AsyncIterable → PlainAsyncIterable
async_iterable_of i = record { at = i.at; word = i.word; first = annotated_of i.first; second = option_map annotated_of i.second; arguments = option_map arguments_of i.arguments }

abbrev pub maplike_of : Maplike → PlainMaplike
maplike_of m = record { at = m.at; readonly = m.readonly; key = annotated_of m.key; value = annotated_of m.value }

abbrev pub setlike_of : Setlike → PlainSetlike
setlike_of s = record { at = s.at; readonly = s.readonly; value = annotated_of s.value }

abbrev pub member_kind_of : MemberKind → PlainMemberKind
member_kind_of (member_kind.Constant c) = ConstantMember (constant_of c.value)
member_kind_of (member_kind.Attribute a) = AttributeMember (attribute_member_of a)
member_kind_of (member_kind.Operation o) = OperationMember (operation_of o)
member_kind_of (member_kind.Constructor c) = ConstructorMember (constructor_of c)
member_kind_of (member_kind.Stringifier s) = StringifierMember s.at
member_kind_of (member_kind.Iterable i) = IterableMember (iterable_of i.value)
member_kind_of (member_kind.AsyncIterable i) = AsyncIterableMember (async_iterable_of i.value)
member_kind_of (member_kind.Maplike m) = MaplikeMember (maplike_of m.value)
member_kind_of (member_kind.Setlike s) = SetlikeMember (setlike_of s.value)

abbrev pub member_of : Member → PlainMember
member_of m = record { attributes = map attribute_of m.attributes; kind = member_kind_of m.kind }

abbrev pub members_of : List Member → List PlainMember
members_of members = map member_of members

abbrev pub dictionary_member_of : DictionaryMember → PlainDictionaryMember
dictionary_member_of m = record { attributes = map attribute_of m.attributes; needed = m.required; ty = annotated_of m.ty; name = name_of m.name; default = written_default m.default }

abbrev pub enumeration_value_of : EnumerationValue → PlainEnumerationValue
enumeration_value_of v = record { at = v.at; text = v.text }

abbrev pub definition_kind_of : DefinitionKind → PlainKind
definition_kind_of (kind.Callback c) = CallbackFunctionDefinition (record { name = name_of c.name; returned = type_of c.result; arguments = arguments_of c.arguments })
definition_kind_of (kind.CallbackInterface c) = CallbackInterfaceDefinition (record { name = name_of c.name; members = members_of c.members })
definition_kind_of (kind.Interface i) = InterfaceDefinition (record { partial = i.partial; name = name_of i.name; parent = option_map name_of i.parent; members = members_of i.members })
definition_kind_of (kind.Mixin m) = MixinDefinition (record { partial = m.partial; name = name_of m.name; members = members_of m.members })
definition_kind_of (kind.Namespace n) = NamespaceDefinition (record { partial = n.partial; name = name_of n.name; members = members_of n.members })
definition_kind_of (kind.Dictionary d) = DictionaryDefinition (record { partial = d.partial; name = name_of d.name; parent = option_map name_of d.parent; members = map dictionary_member_of d.members })
definition_kind_of (kind.Enumeration e) = EnumerationDefinition (record { name = name_of e.name; values = map enumeration_value_of e.values; trailing_comma = e.trailing_comma })
definition_kind_of (kind.Typedef d) = TypedefDefinition (record { ty = annotated_of d.ty; name = name_of d.name })
definition_kind_of (kind.Includes i) = IncludesStatement (record { interface = name_of i.interface; mixin = name_of i.mixin })

abbrev pub definition_of : Definition → PlainDefinition
definition_of d = record { attributes = map attribute_of d.attributes; kind = definition_kind_of d.kind }

-- the definitions of a file
abbrev pub plain_definitions : List Definition → List PlainDefinition
plain_definitions definitions = map definition_of definitions
