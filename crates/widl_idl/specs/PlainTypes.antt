-- Names, extended attributes, values and types of a tree as plain terms: what they say, without the places in memory of their parts. Texts are their bytes.
use Rattle.std.specs.Prelude.{ℕ, Bool, Option, List, map, option_map}
use Rattle.std.specs.Global.{Box}
use Rattle.widl_text.specs.declared.place.Place.{Place}
use Rattle.widl_idl.specs.declared.int_kind.IntKind.{IntKind}
use Rattle.widl_idl.specs.declared.text_kind.TextKind.{TextKind}
use Rattle.widl_idl.specs.declared.tree.extended_attributes.ExtendedAttribute.{ExtendedAttribute}
use Rattle.widl_idl.specs.declared.tree.extended_attributes.SourceToken.{SourceToken}
use Rattle.widl_idl.specs.declared.tree.literals.Literal.{Literal}
use Rattle.widl_idl.specs.declared.tree.literals.LiteralValue.{LiteralValue}
use Rattle.widl_idl.specs.declared.tree.literals.LiteralValue.TheVariants as value
use Rattle.widl_idl.specs.declared.tree.names.Name.{Name}
use Rattle.widl_idl.specs.declared.tree.types.AnnotatedType.{AnnotatedType}
use Rattle.widl_idl.specs.declared.tree.types.BufferKind.{BufferKind}
use Rattle.widl_idl.specs.declared.tree.types.Container.{Container}
use Rattle.widl_idl.specs.declared.tree.types.FloatKind.{FloatKind}
use Rattle.widl_idl.specs.declared.tree.types.TypeForm.{TypeForm}
use Rattle.widl_idl.specs.declared.tree.types.WrittenType.{WrittenType}
use Rattle.widl_idl.specs.TypeTrees.{FormTree, TypeTree, AnnotatedTree, MemberTrees, AnyForm, UndefinedForm, BooleanForm, ObjectForm, SymbolForm, BigIntForm, IntegerForm, FloatForm, TextForm, BufferForm, NamedForm, ContainerForm, RecordForm, PromiseForm, UnionForm, type_tree, annotated_tree, no_members, more_members, form_of, tree_of_type, tree_of_annotated, packed_members}

-- a name: its place, whether a `_` stands before it, and its text without that `_`
pub record PlainName : Type 0 where
  pub at : Place
  pub escaped : Bool
  pub text : List ℕ

pub record PlainToken : Type 0 where
  pub at : Place
  pub text : List ℕ

pub record PlainAttribute : Type 0 where
  pub name : PlainName
  pub arguments : List PlainToken

-- what a literal says
pub data PlainValue : Type 0 where
  NullValue : PlainValue
  UndefinedValue : PlainValue
  BooleanValue : Bool → PlainValue
  IntegerValue : List ℕ → PlainValue
  DecimalValue : List ℕ → PlainValue
  InfinityValue : PlainValue
  MinusInfinityValue : PlainValue
  NotANumberValue : PlainValue
  TextValue : List ℕ → PlainValue
  EmptySequenceValue : PlainValue
  EmptyDictionaryValue : PlainValue

pub record PlainLiteral : Type 0 where
  pub at : Place
  pub value : PlainValue

mutual
  -- the form of a type, without a `?`
  pub data PlainForm : Type 0 where
    PlainAny : PlainForm
    PlainUndefined : PlainForm
    PlainBoolean : PlainForm
    PlainObject : PlainForm
    PlainSymbol : PlainForm
    PlainBigInt : PlainForm
    PlainInteger : IntKind → PlainForm
    PlainFloat : FloatKind → PlainForm
    PlainText : TextKind → PlainForm
    PlainBuffer : BufferKind → PlainForm
    PlainNamed : PlainName → PlainForm
    PlainContainer : Container → PlainAnnotated → PlainForm
    PlainRecord : TextKind → PlainAnnotated → PlainForm
    PlainPromise : PlainType → PlainForm
    PlainUnion : PlainMembers → PlainForm

  -- a type: the place of its first token, its form, and the place of its `?`
  pub data PlainType : Type 0 where
    plain_type : Place → PlainForm → Option Place → PlainType

  -- a type with the extended attributes before it, and the place of its first token
  pub data PlainAnnotated : Type 0 where
    plain_annotated : Place → List PlainAttribute → PlainType → PlainAnnotated

  -- the member types of a union
  pub data PlainMembers : Type 0 where
    no_plain : PlainMembers
    more_plain : PlainAnnotated → PlainMembers → PlainMembers

abbrev pub name_of : Name → PlainName
name_of name = record { at = name.at; escaped = name.escaped; text = name.text }

abbrev pub token_of : SourceToken → PlainToken
token_of token = record { at = token.at; text = token.text }

abbrev pub attribute_of : ExtendedAttribute → PlainAttribute
attribute_of a = record { name = name_of a.name; arguments = map token_of a.arguments }

abbrev pub value_of : LiteralValue → PlainValue
value_of value.Null = NullValue
value_of value.Undefined = UndefinedValue
value_of (value.Boolean b) = BooleanValue b
value_of (value.Integer text) = IntegerValue text
value_of (value.Decimal text) = DecimalValue text
value_of value.Infinity = InfinityValue
value_of value.MinusInfinity = MinusInfinityValue
value_of value.NotANumber = NotANumberValue
value_of (value.Text text) = TextValue text
value_of value.EmptySequence = EmptySequenceValue
value_of value.EmptyDictionary = EmptyDictionaryValue

abbrev pub literal_of : Literal → PlainLiteral
literal_of l = record { at = l.at; value = value_of l.value }

-- a default value, if there is one
abbrev pub written_default : Option (Box Literal) → Option PlainLiteral
written_default default = option_map (λ l. literal_of l.value) default

abbrev mutual
  pub plain_form : FormTree → PlainForm
  plain_form AnyForm = PlainAny
  plain_form UndefinedForm = PlainUndefined
  plain_form BooleanForm = PlainBoolean
  plain_form ObjectForm = PlainObject
  plain_form SymbolForm = PlainSymbol
  plain_form BigIntForm = PlainBigInt
  plain_form (IntegerForm kind) = PlainInteger kind
  plain_form (FloatForm kind) = PlainFloat kind
  plain_form (TextForm kind) = PlainText kind
  plain_form (BufferForm kind) = PlainBuffer kind
  plain_form (NamedForm name) = PlainNamed (name_of name)
  plain_form (ContainerForm container inner) = PlainContainer container (plain_inner inner)
  plain_form (RecordForm key inner) = PlainRecord key (plain_inner inner)
  plain_form (PromiseForm inner) = PlainPromise (plain_of inner)
  plain_form (UnionForm members) = PlainUnion (plain_union members)

  pub plain_of : TypeTree → PlainType
  plain_of (type_tree place form question) = plain_type place (plain_form form) question

  pub plain_inner : AnnotatedTree → PlainAnnotated
  plain_inner (annotated_tree place attributes inner) = plain_annotated place (map attribute_of attributes) (plain_of inner)

  pub plain_union : MemberTrees → PlainMembers
  plain_union no_members = no_plain
  plain_union (more_members member more) = more_plain (plain_inner member) (plain_union more)

-- the terms of a tree's types
abbrev pub form_term : TypeForm → PlainForm
form_term form = plain_form (form_of form)

abbrev pub type_of : WrittenType → PlainType
type_of t = plain_of (tree_of_type t)

abbrev pub annotated_of : AnnotatedType → PlainAnnotated
annotated_of t = plain_inner (tree_of_annotated t)

abbrev pub union_of : List AnnotatedType → PlainMembers
union_of members = plain_union (packed_members (map tree_of_annotated members))
