-- When two trees of files are the same: alike in each of their parts, with equal places and equal texts.
use Rattle.std.specs.Prelude.{◌≡◌, Option, None, Some, List, [], ◌∷◌, map}
use Rattle.std.specs.Global.{Box}
use Rattle.widl_idl.specs.declared.tree.arguments.Argument.{Argument}
use Rattle.widl_idl.specs.declared.tree.arguments.ArgumentKind.{ArgumentKind}
use Rattle.widl_idl.specs.declared.tree.arguments.ArgumentKind.TheVariants as argument_kind
use Rattle.widl_idl.specs.declared.tree.callbacks.Callback.{Callback}
use Rattle.widl_idl.specs.declared.tree.callbacks.CallbackInterface.{CallbackInterface}
use Rattle.widl_idl.specs.declared.tree.constants.Constant.{Constant}
use Rattle.widl_idl.specs.declared.tree.definitions.Definition.{Definition}
use Rattle.widl_idl.specs.declared.tree.definitions.DefinitionKind.{DefinitionKind}
use Rattle.widl_idl.specs.declared.tree.definitions.DefinitionKind.TheVariants as definition_kind
use Rattle.widl_idl.specs.declared.tree.dictionaries.Dictionary.{Dictionary}
use Rattle.widl_idl.specs.declared.tree.dictionaries.DictionaryMember.{DictionaryMember}
use Rattle.widl_idl.specs.declared.tree.enumerations.Enumeration.{Enumeration}
use Rattle.widl_idl.specs.declared.tree.enumerations.EnumerationValue.{EnumerationValue}
use Rattle.widl_idl.specs.declared.tree.extended_attributes.ExtendedAttribute.{ExtendedAttribute}
use Rattle.widl_idl.specs.declared.tree.interfaces.Includes.{Includes}
use Rattle.widl_idl.specs.declared.tree.interfaces.Interface.{Interface}
use Rattle.widl_idl.specs.declared.tree.interfaces.Mixin.{Mixin}
use Rattle.widl_idl.specs.declared.tree.interfaces.Namespace.{Namespace}
use Rattle.widl_idl.specs.declared.tree.iterables.AsyncIterable.{AsyncIterable}
use Rattle.widl_idl.specs.declared.tree.iterables.Iterable.{Iterable}
use Rattle.widl_idl.specs.declared.tree.iterables.Maplike.{Maplike}
use Rattle.widl_idl.specs.declared.tree.iterables.Setlike.{Setlike}
use Rattle.widl_idl.specs.declared.tree.literals.Literal.{Literal}
use Rattle.widl_idl.specs.declared.tree.literals.LiteralValue.{LiteralValue}
use Rattle.widl_idl.specs.declared.tree.literals.LiteralValue.TheVariants as value
use Rattle.widl_idl.specs.declared.tree.members.Attribute.{Attribute}
use Rattle.widl_idl.specs.declared.tree.members.Constructor.{Constructor}
use Rattle.widl_idl.specs.declared.tree.members.Member.{Member}
use Rattle.widl_idl.specs.declared.tree.members.MemberKind.{MemberKind}
use Rattle.widl_idl.specs.declared.tree.members.MemberKind.TheVariants as member_kind
use Rattle.widl_idl.specs.declared.tree.names.Name.{Name}
use Rattle.widl_idl.specs.declared.tree.operations.Operation.{Operation}
use Rattle.widl_idl.specs.declared.tree.typedefs.Typedef.{Typedef}
use Rattle.widl_idl.specs.declared.tree.types.AnnotatedType.{AnnotatedType}
use Rattle.widl_idl.specs.declared.tree.types.WrittenType.{WrittenType}
use Rattle.widl_idl.specs.TypeTrees.{FormTree, TypeTree, AnnotatedTree, MemberTrees, AnyForm, UndefinedForm, BooleanForm, ObjectForm, SymbolForm, BigIntForm, IntegerForm, FloatForm, TextForm, BufferForm, NamedForm, ContainerForm, RecordForm, PromiseForm, UnionForm, type_tree, annotated_tree, no_members, more_members, tree_of_type, tree_of_annotated}
use Rattle.widl_syntax.specs.UnparsedNames.{text_of}

-- both or none
abbrev pub SameOption : {X : Type 0} → (X → X → Type 0) → Option X → Option X → Type 0
SameOption same None None = Unit {0}
SameOption same (Some x) (Some y) = same x y
SameOption same x y = ⊥

-- as many items, the same in each place
abbrev pub SameItems : {X : Type 0} → (X → X → Type 0) → List X → List X → Type 0
SameItems same [] [] = Unit {0}
SameItems same (x ∷ xs) (y ∷ ys) = same x y × SameItems same xs ys
SameItems same xs ys = ⊥

pub record SameName (a b : Name) : Type 0 where
  pub at : a.at ≡ b.at
  pub escaped : a.escaped ≡ b.escaped
  pub text : a.text ≡ b.text

pub record SameExtendedAttribute (a b : ExtendedAttribute) : Type 0 where
  pub name : SameName a.name b.name
  pub arguments : map text_of a.arguments ≡ map text_of b.arguments

abbrev pub SameExtendedAttributes : List ExtendedAttribute → List ExtendedAttribute → Type 0
SameExtendedAttributes = SameItems SameExtendedAttribute

abbrev pub SameValue : LiteralValue → LiteralValue → Type 0
SameValue value.Null value.Null = Unit {0}
SameValue value.Undefined value.Undefined = Unit {0}
SameValue (value.Boolean a) (value.Boolean b) = a ≡ b
SameValue (value.Integer a) (value.Integer b) = a ≡ b
SameValue (value.Decimal a) (value.Decimal b) = a ≡ b
SameValue value.Infinity value.Infinity = Unit {0}
SameValue value.MinusInfinity value.MinusInfinity = Unit {0}
SameValue value.NotANumber value.NotANumber = Unit {0}
SameValue (value.Text a) (value.Text b) = a ≡ b
SameValue value.EmptySequence value.EmptySequence = Unit {0}
SameValue value.EmptyDictionary value.EmptyDictionary = Unit {0}
SameValue a b = ⊥

pub record SameLiteral (a b : Literal) : Type 0 where
  pub at : a.at ≡ b.at
  pub value : SameValue a.value b.value

-- literals in boxes
abbrev pub SameBoxed : Box Literal → Box Literal → Type 0
SameBoxed a b = SameLiteral a.value b.value

-- the terms of types
abbrev mutual
  pub SameForm : FormTree → FormTree → Type 0
  SameForm AnyForm AnyForm = Unit {0}
  SameForm UndefinedForm UndefinedForm = Unit {0}
  SameForm BooleanForm BooleanForm = Unit {0}
  SameForm ObjectForm ObjectForm = Unit {0}
  SameForm SymbolForm SymbolForm = Unit {0}
  SameForm BigIntForm BigIntForm = Unit {0}
  SameForm (IntegerForm a) (IntegerForm b) = a ≡ b
  SameForm (FloatForm a) (FloatForm b) = a ≡ b
  SameForm (TextForm a) (TextForm b) = a ≡ b
  SameForm (BufferForm a) (BufferForm b) = a ≡ b
  SameForm (NamedForm a) (NamedForm b) = SameName a b
  SameForm (ContainerForm a x) (ContainerForm b y) = (a ≡ b) × SameAnnotatedTree x y
  SameForm (RecordForm a x) (RecordForm b y) = (a ≡ b) × SameAnnotatedTree x y
  SameForm (PromiseForm x) (PromiseForm y) = SameTypeTree x y
  SameForm (UnionForm x) (UnionForm y) = SameMembersTree x y
  SameForm a b = ⊥

  pub SameTypeTree : TypeTree → TypeTree → Type 0
  SameTypeTree (type_tree place form question) (type_tree place_b form_b question_b) = (place ≡ place_b) × SameForm form form_b × (question ≡ question_b)

  pub SameAnnotatedTree : AnnotatedTree → AnnotatedTree → Type 0
  SameAnnotatedTree (annotated_tree place attributes inner) (annotated_tree place_b attributes_b inner_b) = (place ≡ place_b) × SameExtendedAttributes attributes attributes_b × SameTypeTree inner inner_b

  pub SameMembersTree : MemberTrees → MemberTrees → Type 0
  SameMembersTree no_members no_members = Unit {0}
  SameMembersTree (more_members x xs) (more_members y ys) = SameAnnotatedTree x y × SameMembersTree xs ys
  SameMembersTree xs ys = ⊥

abbrev pub SameType : WrittenType → WrittenType → Type 0
SameType a b = SameTypeTree (tree_of_type a) (tree_of_type b)

abbrev pub SameAnnotatedType : AnnotatedType → AnnotatedType → Type 0
SameAnnotatedType a b = SameAnnotatedTree (tree_of_annotated a) (tree_of_annotated b)

abbrev pub SameArgumentKind : ArgumentKind → ArgumentKind → Type 0
SameArgumentKind argument_kind.Required argument_kind.Required = Unit {0}
SameArgumentKind (argument_kind.Optional a) (argument_kind.Optional b) = SameOption SameBoxed a b
SameArgumentKind (argument_kind.Variadic a) (argument_kind.Variadic b) = a ≡ b
SameArgumentKind a b = ⊥

pub record SameArgument (a b : Argument) : Type 0 where
  pub attributes : SameExtendedAttributes a.attributes b.attributes
  pub kind : SameArgumentKind a.kind b.kind
  pub ty : SameAnnotatedType a.ty b.ty
  pub name : SameName a.name b.name

abbrev pub SameArguments : List Argument → List Argument → Type 0
SameArguments = SameItems SameArgument

pub record SameConstant (a b : Constant) : Type 0 where
  pub at : a.at ≡ b.at
  pub ty : SameType a.ty b.ty
  pub name : SameName a.name b.name
  pub value : SameLiteral a.value b.value

pub record SameAttribute (a b : Attribute) : Type 0 where
  pub kind : a.kind ≡ b.kind
  pub readonly : a.readonly ≡ b.readonly
  pub ty : SameAnnotatedType a.ty b.ty
  pub name : SameName a.name b.name

pub record SameOperation (a b : Operation) : Type 0 where
  pub kind : a.kind ≡ b.kind
  pub result_type : SameType a.result b.result
  pub name : SameOption SameName a.name b.name
  pub open_at : a.open ≡ b.open
  pub arguments : SameArguments a.arguments b.arguments

pub record SameConstructor (a b : Constructor) : Type 0 where
  pub at : a.at ≡ b.at
  pub arguments : SameArguments a.arguments b.arguments

pub record SameIterable (a b : Iterable) : Type 0 where
  pub at : a.at ≡ b.at
  pub first : SameAnnotatedType a.first b.first
  pub second : SameOption SameAnnotatedType a.second b.second

pub record SameAsyncIterable (a b : AsyncIterable) : Type 0 where
  pub at : a.at ≡ b.at
  pub word : a.word ≡ b.word
  pub first : SameAnnotatedType a.first b.first
  pub second : SameOption SameAnnotatedType a.second b.second
  pub arguments : SameOption SameArguments a.arguments b.arguments

pub record SameMaplike (a b : Maplike) : Type 0 where
  pub at : a.at ≡ b.at
  pub readonly : a.readonly ≡ b.readonly
  pub key : SameAnnotatedType a.key b.key
  pub value : SameAnnotatedType a.value b.value

pub record SameSetlike (a b : Setlike) : Type 0 where
  pub at : a.at ≡ b.at
  pub readonly : a.readonly ≡ b.readonly
  pub value : SameAnnotatedType a.value b.value

abbrev pub SameMemberKind : MemberKind → MemberKind → Type 0
SameMemberKind (member_kind.Constant a) (member_kind.Constant b) = SameConstant a.value b.value
SameMemberKind (member_kind.Attribute a) (member_kind.Attribute b) = SameAttribute a b
SameMemberKind (member_kind.Operation a) (member_kind.Operation b) = SameOperation a b
SameMemberKind (member_kind.Constructor a) (member_kind.Constructor b) = SameConstructor a b
SameMemberKind (member_kind.Stringifier a) (member_kind.Stringifier b) = a.at ≡ b.at
SameMemberKind (member_kind.Iterable a) (member_kind.Iterable b) = SameIterable a.value b.value
SameMemberKind (member_kind.AsyncIterable a) (member_kind.AsyncIterable b) = SameAsyncIterable a.value b.value
SameMemberKind (member_kind.Maplike a) (member_kind.Maplike b) = SameMaplike a.value b.value
SameMemberKind (member_kind.Setlike a) (member_kind.Setlike b) = SameSetlike a.value b.value
SameMemberKind a b = ⊥

pub record SameMember (a b : Member) : Type 0 where
  pub attributes : SameExtendedAttributes a.attributes b.attributes
  pub kind : SameMemberKind a.kind b.kind

abbrev pub SameMembers : List Member → List Member → Type 0
SameMembers = SameItems SameMember

pub record SameCallback (a b : Callback) : Type 0 where
  pub name : SameName a.name b.name
  pub result_type : SameType a.result b.result
  pub arguments : SameArguments a.arguments b.arguments

pub record SameCallbackInterface (a b : CallbackInterface) : Type 0 where
  pub name : SameName a.name b.name
  pub members : SameMembers a.members b.members

pub record SameInterface (a b : Interface) : Type 0 where
  pub partial : a.partial ≡ b.partial
  pub name : SameName a.name b.name
  pub parent : SameOption SameName a.parent b.parent
  pub members : SameMembers a.members b.members

pub record SameMixin (a b : Mixin) : Type 0 where
  pub partial : a.partial ≡ b.partial
  pub name : SameName a.name b.name
  pub members : SameMembers a.members b.members

pub record SameNamespace (a b : Namespace) : Type 0 where
  pub partial : a.partial ≡ b.partial
  pub name : SameName a.name b.name
  pub members : SameMembers a.members b.members

pub record SameDictionaryMember (a b : DictionaryMember) : Type 0 where
  pub attributes : SameExtendedAttributes a.attributes b.attributes
  pub required : a.required ≡ b.required
  pub ty : SameAnnotatedType a.ty b.ty
  pub name : SameName a.name b.name
  pub default : SameOption SameBoxed a.default b.default

pub record SameDictionary (a b : Dictionary) : Type 0 where
  pub partial : a.partial ≡ b.partial
  pub name : SameName a.name b.name
  pub parent : SameOption SameName a.parent b.parent
  pub members : SameItems SameDictionaryMember a.members b.members

pub record SameEnumerationValue (a b : EnumerationValue) : Type 0 where
  pub at : a.at ≡ b.at
  pub text : a.text ≡ b.text

pub record SameEnumeration (a b : Enumeration) : Type 0 where
  pub name : SameName a.name b.name
  pub values : SameItems SameEnumerationValue a.values b.values
  pub trailing_comma : a.trailing_comma ≡ b.trailing_comma

pub record SameTypedef (a b : Typedef) : Type 0 where
  pub ty : SameAnnotatedType a.ty b.ty
  pub name : SameName a.name b.name

pub record SameIncludes (a b : Includes) : Type 0 where
  pub interface_name : SameName a.interface b.interface
  pub mixin_name : SameName a.mixin b.mixin

abbrev pub SameDefinitionKind : DefinitionKind → DefinitionKind → Type 0
SameDefinitionKind (definition_kind.Callback a) (definition_kind.Callback b) = SameCallback a b
SameDefinitionKind (definition_kind.CallbackInterface a) (definition_kind.CallbackInterface b) = SameCallbackInterface a b
SameDefinitionKind (definition_kind.Interface a) (definition_kind.Interface b) = SameInterface a b
SameDefinitionKind (definition_kind.Mixin a) (definition_kind.Mixin b) = SameMixin a b
SameDefinitionKind (definition_kind.Namespace a) (definition_kind.Namespace b) = SameNamespace a b
SameDefinitionKind (definition_kind.Dictionary a) (definition_kind.Dictionary b) = SameDictionary a b
SameDefinitionKind (definition_kind.Enumeration a) (definition_kind.Enumeration b) = SameEnumeration a b
SameDefinitionKind (definition_kind.Typedef a) (definition_kind.Typedef b) = SameTypedef a b
SameDefinitionKind (definition_kind.Includes a) (definition_kind.Includes b) = SameIncludes a b
SameDefinitionKind a b = ⊥

pub record SameDefinition (a b : Definition) : Type 0 where
  pub attributes : SameExtendedAttributes a.attributes b.attributes
  pub kind : SameDefinitionKind a.kind b.kind

abbrev pub SameDefinitions : List Definition → List Definition → Type 0
SameDefinitions = SameItems SameDefinition
