-- Trees that are the same have equal terms.
use Rattle.std.proofs.Common.{◌≡◌, List, [], ◌∷◌, map, refl, sym, ap, ◌∙◌}
use Rattle.std.specs.Prelude.{Option, Some, None, option_map}
use Rattle.std.specs.Global.{Box}
use Rattle.widl_idl.specs.declared.tree.arguments.Argument.{Argument}
use Rattle.widl_idl.specs.declared.tree.arguments.ArgumentKind.{ArgumentKind}
use Rattle.widl_idl.specs.declared.tree.arguments.ArgumentKind.TheVariants as argument_kind
use Rattle.widl_idl.specs.declared.tree.constants.Constant.{Constant}
use Rattle.widl_idl.specs.declared.tree.definitions.Definition.{Definition}
use Rattle.widl_idl.specs.declared.tree.definitions.DefinitionKind.{DefinitionKind}
use Rattle.widl_idl.specs.declared.tree.definitions.DefinitionKind.TheVariants as definition_kind
use Rattle.widl_idl.specs.declared.tree.dictionaries.DictionaryMember.{DictionaryMember}
use Rattle.widl_idl.specs.declared.tree.enumerations.EnumerationValue.{EnumerationValue}
use Rattle.widl_idl.specs.declared.tree.extended_attributes.ExtendedAttribute.{ExtendedAttribute}
use Rattle.widl_idl.specs.declared.tree.extended_attributes.SourceToken.{SourceToken}
use Rattle.widl_idl.specs.declared.tree.iterables.AsyncIterable.{AsyncIterable}
use Rattle.widl_idl.specs.declared.tree.iterables.Iterable.{Iterable}
use Rattle.widl_idl.specs.declared.tree.iterables.Maplike.{Maplike}
use Rattle.widl_idl.specs.declared.tree.iterables.Setlike.{Setlike}
use Rattle.widl_idl.specs.declared.tree.literals.Literal.{Literal}
use Rattle.widl_idl.specs.declared.tree.literals.LiteralValue.{LiteralValue}
use Rattle.widl_idl.specs.declared.tree.literals.LiteralValue.TheVariants as value
use Rattle.widl_idl.specs.declared.tree.members.Attribute.{Attribute}
use Rattle.widl_idl.specs.declared.tree.members.Constructor.{Constructor}
use Rattle.widl_idl.specs.declared.tree.members.Member.{Member}
use Rattle.widl_idl.specs.declared.tree.members.MemberKind.{MemberKind}
use Rattle.widl_idl.specs.declared.tree.members.MemberKind.TheVariants as member_kind
use Rattle.widl_idl.specs.declared.tree.names.Name.{Name}
use Rattle.widl_idl.specs.declared.tree.operations.Operation.{Operation}
use Rattle.widl_idl.specs.declared.tree.types.AnnotatedType.{AnnotatedType}
use Rattle.widl_idl.specs.declared.tree.types.WrittenType.{WrittenType}
use Rattle.widl_idl.specs.TypeTrees.{FormTree, TypeTree, AnnotatedTree, MemberTrees, AnyForm, UndefinedForm, BooleanForm, ObjectForm, SymbolForm, BigIntForm, IntegerForm, FloatForm, TextForm, BufferForm, NamedForm, ContainerForm, RecordForm, PromiseForm, UnionForm, type_tree, annotated_tree, no_members, more_members, tree_of_type, tree_of_annotated}
use Rattle.widl_idl.specs.PlainTypes.{PlainToken, name_of, token_of, attribute_of, value_of, literal_of, written_default, plain_form, plain_of, plain_inner, plain_union, type_of, annotated_of, PlainInteger, PlainFloat, PlainText, PlainBuffer, PlainNamed, PlainContainer, PlainRecord, PlainPromise, PlainUnion, BooleanValue, IntegerValue, DecimalValue, TextValue, more_plain}
use Rattle.widl_idl.specs.PlainTrees.{argument_kind_of, argument_of, arguments_of, constant_of, attribute_member_of, operation_of, constructor_of, iterable_of, async_iterable_of, maplike_of, setlike_of, member_kind_of, member_of, members_of, dictionary_member_of, enumeration_value_of, definition_kind_of, definition_of, plain_definitions, OptionalArgument, VariadicArgument, ConstantMember, AttributeMember, OperationMember, ConstructorMember, StringifierMember, IterableMember, AsyncIterableMember, MaplikeMember, SetlikeMember}
use Rattle.widl_syntax.specs.Signs.{Text}
use Rattle.widl_syntax.specs.UnparsedNames.{text_of}
use Rattle.widl_syntax.proofs.Unique.Same.{SameOption, SameItems, SameName, SameExtendedAttribute, SameExtendedAttributes, SameValue, SameLiteral, SameBoxed, SameForm, SameTypeTree, SameAnnotatedTree, SameMembersTree, SameType, SameAnnotatedType, SameArgumentKind, SameArgument, SameArguments, SameConstant, SameAttribute, SameOperation, SameConstructor, SameIterable, SameAsyncIterable, SameMaplike, SameSetlike, SameMemberKind, SameMember, SameMembers, SameDictionaryMember, SameEnumerationValue, SameDefinitionKind, SameDefinition, SameDefinitions}

module _ {X Y : Type 0} (term : X → Y) (Same : X → X → Type 0) (one : (x y : X) → Same x y → term x ≡ term y) where
  equal_option : (a b : Option X) → SameOption Same a b → option_map term a ≡ option_map term b
  equal_option None None h = refl
  equal_option (Some x) (Some y) h = ap Some (one x y h)
  equal_option None (Some y) h = absurd h
  equal_option (Some x) None h = absurd h

  equal_items : (xs ys : List X) → SameItems Same xs ys → map term xs ≡ map term ys
  equal_items [] [] h = refl
  equal_items (x ∷ xs) (y ∷ ys) h = ap (λ z. z ∷ map term xs) (one x y h.0) ∙ ap (λ l. term y ∷ l) (equal_items xs ys h.1)
  equal_items [] (y ∷ ys) h = absurd h
  equal_items (x ∷ xs) [] h = absurd h

equal_name : (a b : Name) → SameName a b → name_of a ≡ name_of b
equal_name a b h = let at = h.at in let escaped = h.escaped in let text = h.text in (cc)

-- the tokens of attributes
token_text : Text → PlainToken
token_text t = record { at = t.at; text = t.bytes }

tokens_by_text : (tokens : List SourceToken) → map token_of tokens ≡ map token_text (map text_of tokens)
unfolding token_text
tokens_by_text [] = refl
tokens_by_text (t ∷ tokens) = ap (λ l. token_of t ∷ l) (tokens_by_text tokens)

equal_attribute : (a b : ExtendedAttribute) → SameExtendedAttribute a b → attribute_of a ≡ attribute_of b
equal_attribute a b h =
    let name = equal_name a.name b.name h.name in
    let arguments = tokens_by_text a.arguments ∙ ap (map token_text) h.arguments ∙ sym (tokens_by_text b.arguments) in (cc)

equal_attributes : (xs ys : List ExtendedAttribute) → SameExtendedAttributes xs ys → map attribute_of xs ≡ map attribute_of ys
equal_attributes = equal_items attribute_of SameExtendedAttribute equal_attribute

equal_value : (a b : LiteralValue) → SameValue a b → value_of a ≡ value_of b
equal_value value.Null value.Null h = refl
equal_value value.Undefined value.Undefined h = refl
equal_value (value.Boolean a) (value.Boolean b) h = ap BooleanValue h
equal_value (value.Integer a) (value.Integer b) h = ap IntegerValue h
equal_value (value.Decimal a) (value.Decimal b) h = ap DecimalValue h
equal_value value.Infinity value.Infinity h = refl
equal_value value.MinusInfinity value.MinusInfinity h = refl
equal_value value.NotANumber value.NotANumber h = refl
equal_value (value.Text a) (value.Text b) h = ap TextValue h
equal_value value.EmptySequence value.EmptySequence h = refl
equal_value value.EmptyDictionary value.EmptyDictionary h = refl
equal_value a b h = absurd h

equal_literal : (a b : Literal) → SameLiteral a b → literal_of a ≡ literal_of b
equal_literal a b h = let at = h.at in let v = equal_value a.value b.value h.value in (cc)

mutual
  equal_form : (a b : FormTree) → SameForm a b → plain_form a ≡ plain_form b
  equal_form AnyForm AnyForm h = refl
  equal_form UndefinedForm UndefinedForm h = refl
  equal_form BooleanForm BooleanForm h = refl
  equal_form ObjectForm ObjectForm h = refl
  equal_form SymbolForm SymbolForm h = refl
  equal_form BigIntForm BigIntForm h = refl
  equal_form (IntegerForm a) (IntegerForm b) h = ap PlainInteger h
  equal_form (FloatForm a) (FloatForm b) h = ap PlainFloat h
  equal_form (TextForm a) (TextForm b) h = ap PlainText h
  equal_form (BufferForm a) (BufferForm b) h = ap PlainBuffer h
  equal_form (NamedForm a) (NamedForm b) h = ap PlainNamed (equal_name a b h)
  equal_form (ContainerForm a x) (ContainerForm b y) h = ap (λ k. PlainContainer k (plain_inner x)) h.0 ∙ ap (PlainContainer b) (equal_inner x y h.1)
  equal_form (RecordForm a x) (RecordForm b y) h = ap (λ k. PlainRecord k (plain_inner x)) h.0 ∙ ap (PlainRecord b) (equal_inner x y h.1)
  equal_form (PromiseForm x) (PromiseForm y) h = ap PlainPromise (equal_type x y h)
  equal_form (UnionForm x) (UnionForm y) h = ap PlainUnion (equal_union x y h)
  equal_form a b h = absurd h

  equal_type : (a b : TypeTree) → SameTypeTree a b → plain_of a ≡ plain_of b
  equal_type (type_tree p f q) (type_tree p2 f2 q2) h = let place = h.0 in let form = equal_form f f2 h.1 in let question = h.2 in (cc)

  equal_inner : (a b : AnnotatedTree) → SameAnnotatedTree a b → plain_inner a ≡ plain_inner b
  equal_inner (annotated_tree p xs t) (annotated_tree p2 ys u) h = let place = h.0 in let attributes = equal_attributes xs ys h.1 in let inner = equal_type t u h.2 in (cc)

  equal_union : (a b : MemberTrees) → SameMembersTree a b → plain_union a ≡ plain_union b
  equal_union no_members no_members h = refl
  equal_union (more_members x xs) (more_members y ys) h = ap (λ z. more_plain z (plain_union xs)) (equal_inner x y h.0) ∙ ap (more_plain (plain_inner y)) (equal_union xs ys h.1)
  equal_union a b h = absurd h

equal_written : (a b : WrittenType) → SameType a b → type_of a ≡ type_of b
equal_written a b h = equal_type (tree_of_type a) (tree_of_type b) h

equal_annotated : (a b : AnnotatedType) → SameAnnotatedType a b → annotated_of a ≡ annotated_of b
equal_annotated a b h = equal_inner (tree_of_annotated a) (tree_of_annotated b) h

equal_default : (a b : Option (Box Literal)) → SameOption SameBoxed a b → written_default a ≡ written_default b
equal_default = equal_option (λ l. literal_of l.value) SameBoxed (λ a b h. equal_literal a.value b.value h)

equal_argument_kind : (a b : ArgumentKind) → SameArgumentKind a b → argument_kind_of a ≡ argument_kind_of b
equal_argument_kind argument_kind.Required argument_kind.Required h = refl
equal_argument_kind (argument_kind.Optional a) (argument_kind.Optional b) h = ap OptionalArgument (equal_default a b h)
equal_argument_kind (argument_kind.Variadic a) (argument_kind.Variadic b) h = ap VariadicArgument h
equal_argument_kind a b h = absurd h

equal_argument : (a b : Argument) → SameArgument a b → argument_of a ≡ argument_of b
equal_argument a b h =
    let attributes = equal_attributes a.attributes b.attributes h.attributes in let kind = equal_argument_kind a.kind b.kind h.kind in
    let ty = equal_annotated a.ty b.ty h.ty in let name = equal_name a.name b.name h.name in (cc)

equal_arguments : (xs ys : List Argument) → SameArguments xs ys → arguments_of xs ≡ arguments_of ys
equal_arguments = equal_items argument_of SameArgument equal_argument

equal_constant : (a b : Constant) → SameConstant a b → constant_of a ≡ constant_of b
equal_constant a b h = let at = h.at in let ty = equal_written a.ty b.ty h.ty in let name = equal_name a.name b.name h.name in let v = equal_literal a.value b.value h.value in (cc)

equal_attribute_member : (a b : Attribute) → SameAttribute a b → attribute_member_of a ≡ attribute_member_of b
equal_attribute_member a b h = let kind = h.kind in let readonly = h.readonly in let ty = equal_annotated a.ty b.ty h.ty in let name = equal_name a.name b.name h.name in (cc)

equal_operation : (a b : Operation) → SameOperation a b → operation_of a ≡ operation_of b
equal_operation a b h =
    let kind = h.kind in let returned = equal_written a.result b.result h.result_type in let name = equal_option name_of SameName equal_name a.name b.name h.name in
    let place = h.open_at in let arguments = equal_arguments a.arguments b.arguments h.arguments in (cc)

equal_constructor : (a b : Constructor) → SameConstructor a b → constructor_of a ≡ constructor_of b
equal_constructor a b h = let at = h.at in let arguments = equal_arguments a.arguments b.arguments h.arguments in (cc)

equal_iterable : (a b : Iterable) → SameIterable a b → iterable_of a ≡ iterable_of b
equal_iterable a b h = let at = h.at in let first = equal_annotated a.first b.first h.first in let second = equal_option annotated_of SameAnnotatedType equal_annotated a.second b.second h.second in (cc)

equal_async_iterable : (a b : AsyncIterable) → SameAsyncIterable a b → async_iterable_of a ≡ async_iterable_of b
equal_async_iterable a b h =
    let at = h.at in let word = h.word in let first = equal_annotated a.first b.first h.first in
    let second = equal_option annotated_of SameAnnotatedType equal_annotated a.second b.second h.second in
    let arguments = equal_option arguments_of SameArguments equal_arguments a.arguments b.arguments h.arguments in (cc)

equal_maplike : (a b : Maplike) → SameMaplike a b → maplike_of a ≡ maplike_of b
equal_maplike a b h = let at = h.at in let readonly = h.readonly in let key = equal_annotated a.key b.key h.key in let v = equal_annotated a.value b.value h.value in (cc)

equal_setlike : (a b : Setlike) → SameSetlike a b → setlike_of a ≡ setlike_of b
equal_setlike a b h = let at = h.at in let readonly = h.readonly in let v = equal_annotated a.value b.value h.value in (cc)

equal_member_kind : (a b : MemberKind) → SameMemberKind a b → member_kind_of a ≡ member_kind_of b
equal_member_kind (member_kind.Constant a) (member_kind.Constant b) h = ap ConstantMember (equal_constant a.value b.value h)
equal_member_kind (member_kind.Attribute a) (member_kind.Attribute b) h = ap AttributeMember (equal_attribute_member a b h)
equal_member_kind (member_kind.Operation a) (member_kind.Operation b) h = ap OperationMember (equal_operation a b h)
equal_member_kind (member_kind.Constructor a) (member_kind.Constructor b) h = ap ConstructorMember (equal_constructor a b h)
equal_member_kind (member_kind.Stringifier a) (member_kind.Stringifier b) h = ap StringifierMember h
equal_member_kind (member_kind.Iterable a) (member_kind.Iterable b) h = ap IterableMember (equal_iterable a.value b.value h)
equal_member_kind (member_kind.AsyncIterable a) (member_kind.AsyncIterable b) h = ap AsyncIterableMember (equal_async_iterable a.value b.value h)
equal_member_kind (member_kind.Maplike a) (member_kind.Maplike b) h = ap MaplikeMember (equal_maplike a.value b.value h)
equal_member_kind (member_kind.Setlike a) (member_kind.Setlike b) h = ap SetlikeMember (equal_setlike a.value b.value h)
equal_member_kind a b h = absurd h

equal_member : (a b : Member) → SameMember a b → member_of a ≡ member_of b
equal_member a b h = let attributes = equal_attributes a.attributes b.attributes h.attributes in let kind = equal_member_kind a.kind b.kind h.kind in (cc)

equal_members : (xs ys : List Member) → SameMembers xs ys → members_of xs ≡ members_of ys
equal_members = equal_items member_of SameMember equal_member

equal_dictionary_member : (a b : DictionaryMember) → SameDictionaryMember a b → dictionary_member_of a ≡ dictionary_member_of b
equal_dictionary_member a b h =
    let attributes = equal_attributes a.attributes b.attributes h.attributes in let required = h.required in let ty = equal_annotated a.ty b.ty h.ty in
    let name = equal_name a.name b.name h.name in let default = equal_default a.default b.default h.default in (cc)

equal_enumeration_value : (a b : EnumerationValue) → SameEnumerationValue a b → enumeration_value_of a ≡ enumeration_value_of b
equal_enumeration_value a b h = let at = h.at in let text = h.text in (cc)

equal_parent : (a b : Option Name) → SameOption SameName a b → option_map name_of a ≡ option_map name_of b
equal_parent = equal_option name_of SameName equal_name

equal_definition_kind : (a b : DefinitionKind) → SameDefinitionKind a b → definition_kind_of a ≡ definition_kind_of b
equal_definition_kind (definition_kind.Callback a) (definition_kind.Callback b) h =
    let name = equal_name a.name b.name h.name in let returned = equal_written a.result b.result h.result_type in let arguments = equal_arguments a.arguments b.arguments h.arguments in (cc)
equal_definition_kind (definition_kind.CallbackInterface a) (definition_kind.CallbackInterface b) h =
    let name = equal_name a.name b.name h.name in let members = equal_members a.members b.members h.members in (cc)
equal_definition_kind (definition_kind.Interface a) (definition_kind.Interface b) h =
    let partial = h.partial in let name = equal_name a.name b.name h.name in let parent = equal_parent a.parent b.parent h.parent in let members = equal_members a.members b.members h.members in (cc)
equal_definition_kind (definition_kind.Mixin a) (definition_kind.Mixin b) h =
    let partial = h.partial in let name = equal_name a.name b.name h.name in let members = equal_members a.members b.members h.members in (cc)
equal_definition_kind (definition_kind.Namespace a) (definition_kind.Namespace b) h =
    let partial = h.partial in let name = equal_name a.name b.name h.name in let members = equal_members a.members b.members h.members in (cc)
equal_definition_kind (definition_kind.Dictionary a) (definition_kind.Dictionary b) h =
    let partial = h.partial in let name = equal_name a.name b.name h.name in let parent = equal_parent a.parent b.parent h.parent in
    let members = equal_items dictionary_member_of SameDictionaryMember equal_dictionary_member a.members b.members h.members in (cc)
equal_definition_kind (definition_kind.Enumeration a) (definition_kind.Enumeration b) h =
    let name = equal_name a.name b.name h.name in let values = equal_items enumeration_value_of SameEnumerationValue equal_enumeration_value a.values b.values h.values in let comma = h.trailing_comma in (cc)
equal_definition_kind (definition_kind.Typedef a) (definition_kind.Typedef b) h =
    let ty = equal_annotated a.ty b.ty h.ty in let name = equal_name a.name b.name h.name in (cc)
equal_definition_kind (definition_kind.Includes a) (definition_kind.Includes b) h =
    let interface_name = equal_name a.interface b.interface h.interface_name in let mixin_name = equal_name a.mixin b.mixin h.mixin_name in (cc)
equal_definition_kind a b h = absurd h

equal_definition : (a b : Definition) → SameDefinition a b → definition_of a ≡ definition_of b
equal_definition a b h = let attributes = equal_attributes a.attributes b.attributes h.attributes in let kind = equal_definition_kind a.kind b.kind h.kind in (cc)

pub equal_definitions : (xs ys : List Definition) → SameDefinitions xs ys → plain_definitions xs ≡ plain_definitions ys
equal_definitions = equal_items definition_of SameDefinition equal_definition
