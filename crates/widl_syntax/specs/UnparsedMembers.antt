-- The signs of arguments and of members.
use Rattle.std.specs.Prelude.{Option, None, Some, List, []}
use Rattle.widl_idl.specs.declared.tree.arguments.Argument.{Argument}
use Rattle.widl_idl.specs.declared.tree.arguments.ArgumentKind.{ArgumentKind}
use Rattle.widl_idl.specs.declared.tree.arguments.ArgumentKind.TheVariants as argument_kind
use Rattle.widl_idl.specs.declared.tree.constants.Constant.{Constant}
use Rattle.widl_idl.specs.declared.tree.iterables.AsyncIterable.{AsyncIterable}
use Rattle.widl_idl.specs.declared.tree.iterables.AsyncWord.{AsyncWord}
use Rattle.widl_idl.specs.declared.tree.iterables.AsyncWord.TheVariants.{TwoWords, OneWord}
use Rattle.widl_idl.specs.declared.tree.iterables.Iterable.{Iterable}
use Rattle.widl_idl.specs.declared.tree.iterables.Maplike.{Maplike}
use Rattle.widl_idl.specs.declared.tree.iterables.Setlike.{Setlike}
use Rattle.widl_idl.specs.declared.tree.members.Attribute.{Attribute}
use Rattle.widl_idl.specs.declared.tree.members.AttributeKind.{AttributeKind}
use Rattle.widl_idl.specs.declared.tree.members.AttributeKind.TheVariants as attribute_kind
use Rattle.widl_idl.specs.declared.tree.members.Constructor.{Constructor}
use Rattle.widl_idl.specs.declared.tree.members.Member.{Member}
use Rattle.widl_idl.specs.declared.tree.members.MemberKind.{MemberKind}
use Rattle.widl_idl.specs.declared.tree.members.MemberKind.TheVariants as kind
use Rattle.widl_idl.specs.declared.tree.members.Stringifier.{Stringifier}
use Rattle.widl_idl.specs.declared.tree.operations.Operation.{Operation}
use Rattle.widl_idl.specs.declared.tree.operations.OperationKind.{OperationKind}
use Rattle.widl_idl.specs.declared.tree.operations.OperationKind.TheVariants as operation_kind
use Rattle.widl_idl.specs.declared.tree.operations.SpecialWord.{SpecialWord}
use Rattle.widl_idl.specs.declared.tree.types.AnnotatedType.{AnnotatedType}
use Rattle.widl_idl.specs.declared.tree.operations.SpecialWord.TheVariants.{Getter, Setter, Deleter}
use Rattle.widl_grammar.specs.declared.rule.Rule.TheVariants.{ArgumentName, AttributeName}
use Rattle.widl_grammar.specs.declared.terminal.Terminal.{Terminal}
use Rattle.widl_grammar.specs.declared.terminal.Terminal.TheVariants as t
use Rattle.widl_syntax.specs.Signs.{Sign, at, word, separated, ◌⧺◌}
use Rattle.widl_syntax.specs.UnparsedNames.{identifier, any_name, optional_name, word_if, extended_attributes, literal, default_value}
use Rattle.widl_syntax.specs.UnparsedTypes.{written_type, annotated_type, bare_type, second_type}

-- an argument after its extended attributes
abbrev pub argument_rest : ArgumentKind → AnnotatedType → List Sign → List Sign
argument_rest argument_kind.Required ty name = bare_type ty ⧺ name
argument_rest (argument_kind.Optional default) ty name = word t.Optional ⧺ annotated_type ty ⧺ name ⧺ default_value default
argument_rest (argument_kind.Variadic place) ty name = bare_type ty ⧺ at place ⧺ word t.Ellipsis ⧺ name

abbrev pub argument : Argument → List Sign
argument a = extended_attributes a.attributes ⧺ argument_rest a.kind a.ty (any_name ArgumentName a.name)

abbrev pub in_parentheses : List Argument → List Sign
in_parentheses all = word t.OpenParen ⧺ separated t.Comma argument all ⧺ word t.CloseParen

abbrev pub optional_arguments : Option (List Argument) → List Sign
optional_arguments None = []
optional_arguments (Some all) = in_parentheses all

abbrev pub constant : Constant → List Sign
constant c = at c.at ⧺ word t.Const ⧺ written_type c.ty ⧺ identifier c.name ⧺ word t.Equals ⧺ literal c.value ⧺ word t.Semicolon

-- the word before an attribute that says whose it is
abbrev pub attribute_word : AttributeKind → List Sign
attribute_word attribute_kind.Regular = []
attribute_word attribute_kind.Static = word t.Static
attribute_word (attribute_kind.Inherited place) = at place ⧺ word t.Inherit
attribute_word (attribute_kind.Stringifier place) = at place ⧺ word t.Stringifier

-- an attribute from the word `attribute` on
abbrev pub attribute_rest : Attribute → List Sign
attribute_rest a = word t.Attribute ⧺ annotated_type a.ty ⧺ any_name AttributeName a.name ⧺ word t.Semicolon

abbrev pub attribute : Attribute → List Sign
attribute a = attribute_word a.kind ⧺ word_if a.readonly t.Readonly ⧺ attribute_rest a

abbrev pub special_terminal : SpecialWord → Terminal
special_terminal Getter = t.Getter
special_terminal Setter = t.Setter
special_terminal Deleter = t.Deleter

abbrev pub operation_word : OperationKind → List Sign
operation_word operation_kind.Regular = []
operation_word operation_kind.Static = word t.Static
operation_word (operation_kind.Special special place) = at place ⧺ word (special_terminal special)

-- an operation from its return type on
abbrev pub operation_rest : Operation → List Sign
operation_rest o = written_type o.result ⧺ optional_name o.name ⧺ at o.open ⧺ in_parentheses o.arguments ⧺ word t.Semicolon

abbrev pub operation : Operation → List Sign
operation o = operation_word o.kind ⧺ operation_rest o

abbrev pub constructor : Constructor → List Sign
constructor c = at c.at ⧺ word t.Constructor ⧺ in_parentheses c.arguments ⧺ word t.Semicolon

abbrev pub stringifier : Stringifier → List Sign
stringifier s = at s.at ⧺ word t.Stringifier ⧺ word t.Semicolon

abbrev pub iterable : Iterable → List Sign
iterable i = at i.at ⧺ word t.Iterable ⧺ word t.Less ⧺ annotated_type i.first ⧺ second_type i.second ⧺ word t.Greater ⧺ word t.Semicolon

abbrev pub async_words : AsyncWord → List Sign
async_words TwoWords = word t.Async ⧺ word t.Iterable
async_words OneWord = word t.AsyncIterable

abbrev pub async_iterable : AsyncIterable → List Sign
async_iterable i = at i.at ⧺ async_words i.word ⧺ word t.Less ⧺ annotated_type i.first ⧺ second_type i.second ⧺ word t.Greater ⧺ optional_arguments i.arguments ⧺ word t.Semicolon

-- maplike and setlike declarations from their word on
abbrev pub maplike_rest : Maplike → List Sign
maplike_rest m = at m.at ⧺ word t.Maplike ⧺ word t.Less ⧺ annotated_type m.key ⧺ word t.Comma ⧺ annotated_type m.value ⧺ word t.Greater ⧺ word t.Semicolon

abbrev pub setlike_rest : Setlike → List Sign
setlike_rest s = at s.at ⧺ word t.Setlike ⧺ word t.Less ⧺ annotated_type s.value ⧺ word t.Greater ⧺ word t.Semicolon

abbrev pub member_kind : MemberKind → List Sign
member_kind (kind.Constant c) = constant c.value
member_kind (kind.Attribute a) = attribute a
member_kind (kind.Operation o) = operation o
member_kind (kind.Constructor c) = constructor c
member_kind (kind.Stringifier s) = stringifier s
member_kind (kind.Iterable i) = iterable i.value
member_kind (kind.AsyncIterable i) = async_iterable i.value
member_kind (kind.Maplike m) = word_if m.value.readonly t.Readonly ⧺ maplike_rest m.value
member_kind (kind.Setlike s) = word_if s.value.readonly t.Readonly ⧺ setlike_rest s.value

abbrev pub member : Member → List Sign
member m = extended_attributes m.attributes ⧺ member_kind m.kind
