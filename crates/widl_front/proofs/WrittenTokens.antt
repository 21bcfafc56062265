-- Lemmas: what is written in a definition, and each value of an enumeration, has a token of its own.
use Rattle.std.proofs.Common.{◌≡◌, ℕ, ◌+◌, ◌≤◌, ◌++◌, Bool, true, false, List, [], ◌∷◌, length, map, flat_map, Option, None, Some, option_map, suc, ap, arith, refl}
use Rattle.std.specs.Global.{Box}
use Rattle.std.specs.Prelude.{sum_by}
use Rattle.std.proofs.lemmas.List.{length-append, length-map}
use Rattle.std.proofs.lemmas.List.Sums.{sum_by-cons}
use Rattle.widl_text.specs.declared.place.Place.{Place}
use Rattle.widl_idl.specs.declared.int_kind.IntKind.{IntKind}
use Rattle.widl_idl.specs.declared.int_kind.IntKind.TheVariants as int
use Rattle.widl_idl.specs.declared.tree.arguments.Argument.{Argument}
use Rattle.widl_idl.specs.declared.tree.arguments.ArgumentKind.{ArgumentKind}
use Rattle.widl_idl.specs.declared.tree.arguments.ArgumentKind.TheVariants as argument_kind
use Rattle.widl_idl.specs.declared.tree.definitions.Definition.{Definition}
use Rattle.widl_idl.specs.declared.tree.definitions.DefinitionKind.{DefinitionKind}
use Rattle.widl_idl.specs.declared.tree.definitions.DefinitionKind.TheVariants as kind
use Rattle.widl_idl.specs.declared.tree.dictionaries.DictionaryMember.{DictionaryMember}
use Rattle.widl_idl.specs.declared.tree.enumerations.EnumerationValue.{EnumerationValue}
use Rattle.widl_idl.specs.declared.tree.extended_attributes.ExtendedAttribute.{ExtendedAttribute}
use Rattle.widl_idl.specs.declared.tree.fragments.Fragment.{Fragment}
use Rattle.widl_idl.specs.declared.tree.literals.Literal.{Literal}
use Rattle.widl_idl.specs.declared.tree.members.Member.{Member}
use Rattle.widl_idl.specs.declared.tree.members.MemberKind.{MemberKind}
use Rattle.widl_idl.specs.declared.tree.members.MemberKind.TheVariants as member_kinds
use Rattle.widl_idl.specs.declared.tree.names.Name.{Name}
use Rattle.widl_idl.specs.declared.tree.types.AnnotatedType.{AnnotatedType}
use Rattle.widl_idl.specs.declared.tree.types.FloatKind.{FloatKind}
use Rattle.widl_idl.specs.declared.tree.types.FloatKind.TheVariants as float
use Rattle.widl_idl.specs.declared.tree.types.WrittenType.{WrittenType}
use Rattle.widl_idl.specs.Meanings.{declared_name}
use Rattle.widl_idl.specs.Nodes.{Node, AttributeNode, nodes_inside, nodes_of, nodes_of_annotated, nodes_of_argument, nodes_of_argument_kind, nodes_of_arguments, nodes_of_attributes, nodes_of_callback_member, nodes_of_default, nodes_of_definition, nodes_of_dictionary_member, nodes_of_form, nodes_of_member, nodes_of_member_kind, nodes_of_optional_arguments, nodes_of_optional_name, nodes_of_optional_type, nodes_of_type, nodes_of_union}
use Rattle.widl_idl.specs.PlainTrees.{PlainDefinition, PlainKind, argument_kind_of, argument_of, arguments_of, definition_kind_of, definition_of, dictionary_member_of, enumeration_value_of, member_kind_of, member_of, plain_definitions}
use Rattle.widl_idl.specs.PlainTypes.{annotated_of, attribute_of, name_of, plain_form, plain_inner, plain_of, plain_union, type_of, written_default}
use Rattle.widl_idl.specs.TypeTrees.{AnnotatedTree, AnyForm, BigIntForm, BooleanForm, BufferForm, ContainerForm, FloatForm, FormTree, IntegerForm, MemberTrees, NamedForm, ObjectForm, PromiseForm, RecordForm, SymbolForm, TextForm, TypeTree, UndefinedForm, UnionForm, annotated_tree, more_members, no_members, tree_of_annotated, tree_of_type, type_tree}
use Rattle.widl_lex.specs.Tokens.{Lexeme}
use Rattle.widl_grammar.specs.declared.rule.Rule.{Rule}
use Rattle.widl_grammar.specs.declared.rule.Rule.TheVariants.{ArgumentName, AttributeName, OperationName}
use Rattle.widl_grammar.specs.declared.terminal.Terminal.{Terminal}
use Rattle.widl_grammar.specs.declared.terminal.Terminal.TheVariants as t
use Rattle.widl_merge.specs.Countable.{values_in, written_count}
use Rattle.widl_syntax.specs.Signs.{AreTexts, Sign, Text, UnparsesTo, AtPlace, OfTerminal, OfBytes, OfText, OfPart, Nowhere, after, all_signs, at, separated, word}
use Rattle.widl_syntax.specs.UnparsedDefinitions as unparsed
use Rattle.widl_syntax.specs.UnparsedMembers as members
use Rattle.widl_syntax.specs.UnparsedNames as names
use Rattle.widl_syntax.specs.UnparsedTypes as types

-- signs stand for so many tokens at least
record Takes (n : ℕ) (signs : List Sign) : Type 0 where
  least : (from to : List Lexeme) → UnparsesTo signs from to → n + length to ≤ length from

takes_some : {m n : ℕ} {signs : List Sign} → m ≤ n → Takes n signs → Takes m signs
takes_some less takes = record { least = λ from to is. (let all = takes.least from to is in omega (arith, less, all)) }

-- signs one after the other
split : (a b : List Sign) (from to : List Lexeme) → UnparsesTo (a ++ b) from to → (middle : List Lexeme) × UnparsesTo a from middle × UnparsesTo b middle to
split [] b from to is = (from, refl, is)
split (sign ∷ a) b from to is = let rest = split a b is.0 to is.2 in (rest.0, (is.0, is.1, rest.1), rest.2)

both : {m n : ℕ} {a b : List Sign} → Takes m a → Takes n b → Takes (m + n) (a ++ b)
both {a = a} {b = b} left right = record {
  least = λ from to is.
      let parts = split a b from to is in
      let first = left.least from parts.0 parts.1 in
      let second = right.least parts.0 to parts.2 in
      omega (arith, first, second);
}

texts_before : (texts : List Text) (from to : List Lexeme) → AreTexts texts from to → length to ≤ length from
texts_before [] from to is = let same = ap length is in omega (arith, same)
texts_before (text ∷ texts) from to is =
    let rest = texts_before texts is.1 to is.5 in
    let same : length from ≡ suc (length is.1) = ap length is.2 in
    omega (arith, rest, same)

none : Takes 0 []
none = record { least = λ from to is. (let same = ap length is in omega (arith, same)) }

at_place : {n : ℕ} {place : Place} {signs : List Sign} → Takes n signs → Takes n (AtPlace place ∷ signs)
at_place rest = record { least = λ from to is. (let more = rest.least is.0 to is.2 in let same : length is.0 ≡ length from = ap length is.1.4 in omega (arith, more, same)) }

terminal : {n : ℕ} {t : Terminal} {signs : List Sign} → Takes n signs → Takes (1 + n) (OfTerminal t ∷ signs)
terminal rest = record { least = λ from to is. (let more = rest.least is.0 to is.2 in let same : length from ≡ suc (length is.0) = ap length is.1.1 in omega (arith, more, same)) }

bytes_of : {n : ℕ} {t : Terminal} {bytes : List ℕ} {signs : List Sign} → Takes n signs → Takes (1 + n) (OfBytes t bytes ∷ signs)
bytes_of rest = record { least = λ from to is. (let more = rest.least is.0 to is.2 in let same : length from ≡ suc (length is.0) = ap length is.1.1 in omega (arith, more, same)) }

text_of : {n : ℕ} {test : Terminal → Bool} {bytes : List ℕ} {signs : List Sign} → Takes n signs → Takes (1 + n) (OfText test bytes ∷ signs)
text_of rest = record { least = λ from to is. (let more = rest.least is.0 to is.2 in let same : length from ≡ suc (length is.0) = ap length is.1.1 in omega (arith, more, same)) }

part_of : {n : ℕ} {rule : Rule} {texts : List Text} {signs : List Sign} → Takes n signs → Takes n (OfPart rule texts ∷ signs)
part_of {texts = texts} rest = record { least = λ from to is. (let more = rest.least is.0 to is.2 in let within = texts_before texts from is.0 is.1.0 in omega (arith, more, within)) }

nowhere : {n : ℕ} {signs : List Sign} → Takes n (Nowhere ∷ signs)
nowhere = record { least = λ from to is. absurd is.1 }

any_signs : (signs : List Sign) → Takes 0 signs
any_signs [] = none
any_signs (AtPlace place ∷ signs) = at_place (any_signs signs)
any_signs (OfTerminal x ∷ signs) = takes_some (omega arith) (terminal (any_signs signs))
any_signs (OfBytes x bytes ∷ signs) = takes_some (omega arith) (bytes_of (any_signs signs))
any_signs (OfText test bytes ∷ signs) = takes_some (omega arith) (text_of (any_signs signs))
any_signs (OfPart rule texts ∷ signs) = part_of (any_signs signs)
any_signs (Nowhere ∷ signs) = nowhere

one_word : {x : Terminal} → Takes 1 (word x)
one_word = takes_some (omega arith) (terminal none)

no_token : {place : Place} → Takes 0 (at place)
no_token = at_place none

-- lists of items
all_take : {X Y : Type 0} (one : X → List Sign) (plain : X → Y) (nodes : Y → List Node) → ((x : X) → Takes (length (nodes (plain x))) (one x)) → (xs : List X) → Takes (length (flat_map nodes (map plain xs))) (all_signs one xs)
all_take one plain nodes each [] = none
all_take one plain nodes each (x ∷ xs) = let sum = length-append (nodes (plain x)) (flat_map nodes (map plain xs)) in takes_some (omega (arith, sum)) (both (each x) (all_take one plain nodes each xs))

after_takes : {X : Type 0} {n : ℕ} {x : X} (separator : Terminal) (one : X → List Sign) → Takes n (one x) → Takes n (after separator one x)
after_takes separator one takes = takes_some (omega arith) (both one_word takes)

separated_take : {X Y : Type 0} (separator : Terminal) (one : X → List Sign) (plain : X → Y) (nodes : Y → List Node) → ((x : X) → Takes (length (nodes (plain x))) (one x)) → (xs : List X) → Takes (length (flat_map nodes (map plain xs))) (separated separator one xs)
separated_take separator one plain nodes each [] = none
separated_take separator one plain nodes each (x ∷ xs) =
    let sum = length-append (nodes (plain x)) (flat_map nodes (map plain xs)) in
    takes_some (omega (arith, sum)) (both (each x) (all_take (after separator one) plain nodes (λ y. after_takes separator one (each y)) xs))

count_take : {X : Type 0} (one : X → List Sign) → ((x : X) → Takes 1 (one x)) → (xs : List X) → Takes (length xs) (all_signs one xs)
count_take one each [] = none
count_take one each (x ∷ xs) = takes_some (omega arith) (both (each x) (count_take one each xs))

separated_count : {X : Type 0} (separator : Terminal) (one : X → List Sign) → ((x : X) → Takes 1 (one x)) → (xs : List X) → Takes (length xs) (separated separator one xs)
separated_count separator one each [] = none
separated_count separator one each (x ∷ xs) = takes_some (omega arith) (both (each x) (count_take (after separator one) (λ y. after_takes separator one (each y)) xs))

-- names and extended attributes
identifier : (name : Name) → Takes 1 (names.identifier name)
identifier name = takes_some (omega arith) (at_place (bytes_of (any_signs (names.escape_apart name))))

any_name : (rule : Rule) (name : Name) → Takes 1 (names.any_name rule name)
any_name rule name = takes_some (omega arith) (at_place (text_of (any_signs (names.escape_apart name))))

optional_name : (name : Option Name) → Takes (length (nodes_of_optional_name (option_map name_of name))) (names.optional_name name)
optional_name None = none
optional_name (Some name) = takes_some (omega arith) (any_name OperationName name)

one_attribute : (a : ExtendedAttribute) → Takes 1 (names.extended_attribute a)
one_attribute a = takes_some (omega arith) (both (identifier a.name) (any_signs (names.attribute_rest a.arguments)))

attributes : (all : List ExtendedAttribute) → Takes (length (nodes_of_attributes (map attribute_of all))) (names.extended_attributes all)
attributes [] = none
attributes (a ∷ more) =
    let plain = length-map (a ∷ more) attribute_of in
    let nodes = length-map (map attribute_of (a ∷ more)) AttributeNode in
    takes_some (omega (arith, plain, nodes)) (both one_word (both (separated_count t.Comma names.extended_attribute one_attribute (a ∷ more)) one_word))

default : (literal : Option (Box Literal)) → Takes (length (nodes_of_default (written_default literal))) (names.default_value literal)
default None = none
default (Some l) = takes_some (omega arith) (both one_word (any_signs (names.literal l.value)))

-- types
integer : (k : IntKind) → Takes 1 (types.integer_words k)
integer int.Byte = one_word
integer int.Octet = one_word
integer int.Short = one_word
integer int.UShort = takes_some (omega arith) (both one_word one_word)
integer int.Long = one_word
integer int.ULong = takes_some (omega arith) (both one_word one_word)
integer int.LongLong = takes_some (omega arith) (both one_word one_word)
integer int.ULongLong = takes_some (omega arith) (both one_word (both one_word one_word))

floating : (k : FloatKind) → Takes 1 (types.float_words k)
floating float.Float = one_word
floating float.UnrestrictedFloat = takes_some (omega arith) (both one_word one_word)
floating float.Double = one_word
floating float.UnrestrictedDouble = takes_some (omega arith) (both one_word one_word)

mutual
  form_takes : (form : FormTree) → Takes (length (nodes_of_form (plain_form form)) + 1) (types.form_signs form)
  form_takes AnyForm = takes_some (omega arith) one_word
  form_takes UndefinedForm = takes_some (omega arith) one_word
  form_takes BooleanForm = takes_some (omega arith) one_word
  form_takes ObjectForm = takes_some (omega arith) one_word
  form_takes SymbolForm = takes_some (omega arith) one_word
  form_takes BigIntForm = takes_some (omega arith) one_word
  form_takes (IntegerForm k) = takes_some (omega arith) (integer k)
  form_takes (FloatForm k) = takes_some (omega arith) (floating k)
  form_takes (TextForm k) = takes_some (omega arith) one_word
  form_takes (BufferForm k) = takes_some (omega arith) one_word
  form_takes (NamedForm name) = takes_some (omega arith) (identifier name)
  form_takes (ContainerForm k element) = takes_some (omega arith) (both one_word (both one_word (both (annotated_takes element) one_word)))
  form_takes (RecordForm key value) = takes_some (omega arith) (both one_word (both one_word (both one_word (both one_word (both (annotated_takes value) one_word)))))
  form_takes (PromiseForm value) = takes_some (omega arith) (both one_word (both one_word (both (type_takes value) one_word)))
  form_takes (UnionForm all) = takes_some (omega arith) (both one_word (both (members_take all) one_word))

  type_takes : (ty : TypeTree) → Takes (length (nodes_of_type (plain_of ty))) (types.type_signs ty)
  type_takes (type_tree place form question) = takes_some (omega arith) (both no_token (both (form_takes form) (any_signs (types.question_mark question))))

  annotated_takes : (ty : AnnotatedTree) → Takes (length (nodes_of_annotated (plain_inner ty))) (types.annotated_signs ty)
  annotated_takes (annotated_tree place own inner) = let sum = length-append (nodes_of_attributes (map attribute_of own)) (nodes_of_type (plain_of inner)) in takes_some (omega (arith, sum)) (both no_token (both (attributes own) (type_takes inner)))

  members_take : (all : MemberTrees) → Takes (length (nodes_of_union (plain_union all))) (types.member_signs all)
  members_take no_members = none
  members_take (more_members member more) = let sum = length-append (nodes_of_annotated (plain_inner member)) (nodes_of_union (plain_union more)) in takes_some (omega (arith, sum)) (both (annotated_takes member) (more_members_take more))

  more_members_take : (all : MemberTrees) → Takes (length (nodes_of_union (plain_union all))) (types.more_member_signs all)
  more_members_take no_members = none
  more_members_take (more_members member more) = let sum = length-append (nodes_of_annotated (plain_inner member)) (nodes_of_union (plain_union more)) in takes_some (omega (arith, sum)) (both one_word (both (annotated_takes member) (more_members_take more)))

outer : (ty : TypeTree) → Takes (length (nodes_of_type (plain_of ty))) (types.outer_signs ty)
outer ty = takes_some (omega arith) (both (type_takes ty) (any_signs (types.within_levels ty)))

written : (ty : WrittenType) → Takes (length (nodes_of_type (type_of ty))) (types.written_type ty)
written ty = outer (tree_of_type ty)

outer_annotated : (ty : AnnotatedTree) → Takes (length (nodes_of_annotated (plain_inner ty))) (types.outer_annotated ty)
outer_annotated (annotated_tree place own inner) = let sum = length-append (nodes_of_attributes (map attribute_of own)) (nodes_of_type (plain_of inner)) in takes_some (omega (arith, sum)) (both no_token (both (attributes own) (outer inner)))

annotated : (ty : AnnotatedType) → Takes (length (nodes_of_annotated (annotated_of ty))) (types.annotated_type ty)
annotated ty = outer_annotated (tree_of_annotated ty)

bare_tree : (ty : AnnotatedTree) → Takes (length (nodes_of_annotated (plain_inner ty))) (types.bare_signs ty)
bare_tree (annotated_tree place [] inner) = takes_some (omega arith) (both no_token (outer inner))
bare_tree (annotated_tree place (a ∷ more) inner) = nowhere

bare : (ty : AnnotatedType) → Takes (length (nodes_of_annotated (annotated_of ty))) (types.bare_type ty)
bare ty = bare_tree (tree_of_annotated ty)

second : (ty : Option AnnotatedType) → Takes (length (nodes_of_optional_type (option_map annotated_of ty))) (types.second_type ty)
second None = none
second (Some ty) = takes_some (omega arith) (both one_word (annotated ty))

-- arguments
argument_rest : (k : ArgumentKind) (ty : AnnotatedType) (name : Name) → Takes (length (nodes_of_annotated (annotated_of ty)) + length (nodes_of_argument_kind (argument_kind_of k))) (members.argument_rest k ty (names.any_name ArgumentName name))
argument_rest argument_kind.Required ty name = takes_some (omega arith) (both (bare ty) (any_name ArgumentName name))
argument_rest (argument_kind.Optional literal) ty name = takes_some (omega arith) (both one_word (both (annotated ty) (both (any_name ArgumentName name) (default literal))))
argument_rest (argument_kind.Variadic place) ty name = takes_some (omega arith) (both (bare ty) (both no_token (both one_word (any_name ArgumentName name))))

argument : (a : Argument) → Takes (length (nodes_of_argument (argument_of a))) (members.argument a)
argument a =
    let outside = length-append (nodes_of_attributes (map attribute_of a.attributes)) (nodes_of_annotated (annotated_of a.ty) ++ nodes_of_argument_kind (argument_kind_of a.kind)) in
    let inside = length-append (nodes_of_annotated (annotated_of a.ty)) (nodes_of_argument_kind (argument_kind_of a.kind)) in
    takes_some (omega (arith, outside, inside)) (both (attributes a.attributes) (argument_rest a.kind a.ty a.name))

arguments : (all : List Argument) → Takes (length (nodes_of_arguments (arguments_of all)) + 2) (members.in_parentheses all)
arguments all = takes_some (omega arith) (both one_word (both (separated_take t.Comma members.argument argument_of nodes_of_argument argument all) one_word))

optional_arguments : (all : Option (List Argument)) → Takes (length (nodes_of_optional_arguments (option_map arguments_of all))) (members.optional_arguments all)
optional_arguments None = none
optional_arguments (Some all) = takes_some (omega arith) (arguments all)

-- members
member_kind : (k : MemberKind) → Takes (length (nodes_of_member_kind (member_kind_of k)) + 1) (members.member_kind k)
member_kind (member_kinds.Constant c) = takes_some (omega arith) (both no_token (both one_word (both (written c.value.ty) (both (identifier c.value.name) (both one_word (both (any_signs (names.literal c.value.value)) one_word))))))
member_kind (member_kinds.Attribute a) =
    takes_some (omega arith) (both (any_signs (members.attribute_word a.kind)) (both (any_signs (names.word_if a.readonly t.Readonly)) (both one_word (both (annotated a.ty) (both (any_name AttributeName a.name) one_word)))))
member_kind (member_kinds.Operation o) =
    let outside = length-append (nodes_of_optional_name (option_map name_of o.name)) (nodes_of_type (type_of o.result) ++ nodes_of_arguments (arguments_of o.arguments)) in
    let inside = length-append (nodes_of_type (type_of o.result)) (nodes_of_arguments (arguments_of o.arguments)) in
    takes_some (omega (arith, outside, inside)) (both (any_signs (members.operation_word o.kind)) (both (written o.result) (both (optional_name o.name) (both no_token (both (arguments o.arguments) one_word)))))
member_kind (member_kinds.Constructor c) = takes_some (omega arith) (both no_token (both one_word (both (arguments c.arguments) one_word)))
member_kind (member_kinds.Stringifier s) = takes_some (omega arith) (both no_token (both one_word one_word))
member_kind (member_kinds.Iterable i) =
    let sum = length-append (nodes_of_annotated (annotated_of i.value.first)) (nodes_of_optional_type (option_map annotated_of i.value.second)) in
    takes_some (omega (arith, sum)) (both no_token (both one_word (both one_word (both (annotated i.value.first) (both (second i.value.second) (both one_word one_word))))))
member_kind (member_kinds.AsyncIterable i) =
    let outside = length-append (nodes_of_annotated (annotated_of i.value.first)) (nodes_of_optional_type (option_map annotated_of i.value.second) ++ nodes_of_optional_arguments (option_map arguments_of i.value.arguments)) in
    let inside = length-append (nodes_of_optional_type (option_map annotated_of i.value.second)) (nodes_of_optional_arguments (option_map arguments_of i.value.arguments)) in
    takes_some (omega (arith, outside, inside)) (both no_token (both (any_signs (members.async_words i.value.word)) (both one_word (both (annotated i.value.first) (both (second i.value.second) (both one_word (both (optional_arguments i.value.arguments) one_word)))))))
member_kind (member_kinds.Maplike m) =
    let sum = length-append (nodes_of_annotated (annotated_of m.value.key)) (nodes_of_annotated (annotated_of m.value.value)) in
    takes_some (omega (arith, sum)) (both (any_signs (names.word_if m.value.readonly t.Readonly)) (both no_token (both one_word (both one_word (both (annotated m.value.key) (both one_word (both (annotated m.value.value) (both one_word one_word))))))))
member_kind (member_kinds.Setlike s) = takes_some (omega arith) (both (any_signs (names.word_if s.value.readonly t.Readonly)) (both no_token (both one_word (both one_word (both (annotated s.value.value) (both one_word one_word))))))

member : (m : Member) → Takes (length (nodes_of_member (member_of m))) (members.member m)
member m =
    let sum = length-append (nodes_of_attributes (map attribute_of m.attributes)) (nodes_of_member_kind (member_kind_of m.kind)) in
    takes_some (omega (arith, sum)) (both (attributes m.attributes) (member_kind m.kind))

callback_member : (m : Member) → Takes (length (nodes_of_callback_member (member_of m))) (members.member m)
callback_member m =
    let sum = length-append (nodes_of_attributes (map attribute_of m.attributes)) (nodes_of_member_kind (member_kind_of m.kind)) in
    takes_some (omega (arith, sum)) (both (attributes m.attributes) (member_kind m.kind))

member_type : (required : Bool) (ty : AnnotatedType) → Takes (length (nodes_of_annotated (annotated_of ty))) (unparsed.member_type required ty)
member_type true ty = takes_some (omega arith) (both one_word (annotated ty))
member_type false ty = bare ty

dictionary_member : (m : DictionaryMember) → Takes (length (nodes_of_dictionary_member (dictionary_member_of m))) (unparsed.dictionary_member m)
dictionary_member m =
    let outside = length-append (nodes_of_attributes (map attribute_of m.attributes)) (nodes_of_annotated (annotated_of m.ty) ++ nodes_of_default (written_default m.default)) in
    let inside = length-append (nodes_of_annotated (annotated_of m.ty)) (nodes_of_default (written_default m.default)) in
    takes_some (omega (arith, outside, inside)) (both (attributes m.attributes) (both (member_type m.required m.ty) (both (identifier m.name) (both (default m.default) one_word))))

-- definitions
value : (v : EnumerationValue) → Takes 1 (unparsed.enumeration_value v)
value v = takes_some (omega arith) (at_place (bytes_of none))

body : {n : ℕ} {inner : List Sign} → Takes n inner → Takes n (unparsed.body inner)
body inner = takes_some (omega arith) (both one_word (both inner (both one_word one_word)))

-- what is written in a definition, with the values of an enumeration
abbrev pub definition_count : PlainDefinition → ℕ
definition_count d = length (nodes_of_definition d) + length (values_in d.kind)

abbrev kind_count : PlainKind → ℕ
kind_count k = length (nodes_of_optional_name (declared_name k)) + length (nodes_inside k) + length (values_in k)

definition_kind : (k : DefinitionKind) → Takes (kind_count (definition_kind_of k)) (unparsed.after_partial k)
definition_kind (kind.Callback c) =
    let sum = length-append (nodes_of_type (type_of c.result)) (nodes_of_arguments (arguments_of c.arguments)) in
    takes_some (omega (arith, sum)) (both one_word (both (identifier c.name) (both one_word (both (written c.result) (both (arguments c.arguments) one_word)))))
definition_kind (kind.CallbackInterface c) = takes_some (omega arith) (both one_word (both one_word (both (identifier c.name) (body (all_take members.member member_of nodes_of_callback_member callback_member c.members)))))
definition_kind (kind.Interface i) = takes_some (omega arith) (both one_word (both (identifier i.name) (both (any_signs (unparsed.parent i.parent)) (body (all_take members.member member_of nodes_of_member member i.members)))))
definition_kind (kind.Mixin m) = takes_some (omega arith) (both one_word (both one_word (both (identifier m.name) (body (all_take members.member member_of nodes_of_member member m.members)))))
definition_kind (kind.Namespace n) = takes_some (omega arith) (both one_word (both (identifier n.name) (body (all_take members.member member_of nodes_of_member member n.members))))
definition_kind (kind.Dictionary d) = takes_some (omega arith) (both one_word (both (identifier d.name) (both (any_signs (unparsed.parent d.parent)) (body (all_take unparsed.dictionary_member dictionary_member_of nodes_of_dictionary_member dictionary_member d.members)))))
definition_kind (kind.Enumeration e) =
    let size = length-map e.values enumeration_value_of in
    takes_some (omega (arith, size)) (both one_word (both (identifier e.name) (body (both (separated_count t.Comma unparsed.enumeration_value value e.values) (any_signs (names.word_if e.trailing_comma t.Comma))))))
definition_kind (kind.Typedef d) = takes_some (omega arith) (both one_word (both (annotated d.ty) (both (identifier d.name) one_word)))
definition_kind (kind.Includes i) = takes_some (omega arith) (any_signs (unparsed.includes i))

definition : (d : Definition) → Takes (definition_count (definition_of d)) (unparsed.definition d)
definition d =
    let outside = length-append (nodes_of_attributes (map attribute_of d.attributes)) (nodes_of_optional_name (declared_name (definition_kind_of d.kind)) ++ nodes_inside (definition_kind_of d.kind)) in
    let inside = length-append (nodes_of_optional_name (declared_name (definition_kind_of d.kind))) (nodes_inside (definition_kind_of d.kind)) in
    takes_some (omega (arith, outside, inside)) (both (attributes d.attributes) (both (any_signs (names.word_if (unparsed.is_partial d.kind) t.Partial)) (definition_kind d.kind)))

one_kind : (k : DefinitionKind) → Takes 1 (unparsed.after_partial k)
one_kind (kind.Includes i) = takes_some (omega arith) (both (identifier i.interface) (both one_word (both (identifier i.mixin) one_word)))
one_kind (kind.Callback c) = takes_some (omega arith) (definition_kind (kind.Callback c))
one_kind (kind.CallbackInterface c) = takes_some (omega arith) (definition_kind (kind.CallbackInterface c))
one_kind (kind.Interface i) = takes_some (omega arith) (definition_kind (kind.Interface i))
one_kind (kind.Mixin m) = takes_some (omega arith) (definition_kind (kind.Mixin m))
one_kind (kind.Namespace n) = takes_some (omega arith) (definition_kind (kind.Namespace n))
one_kind (kind.Dictionary d) = takes_some (omega arith) (definition_kind (kind.Dictionary d))
one_kind (kind.Enumeration e) = takes_some (omega arith) (definition_kind (kind.Enumeration e))
one_kind (kind.Typedef d) = takes_some (omega arith) (definition_kind (kind.Typedef d))

one_definition : (d : Definition) → Takes 1 (unparsed.definition d)
one_definition d = takes_some (omega arith) (both (attributes d.attributes) (both (any_signs (names.word_if (unparsed.is_partial d.kind) t.Partial)) (one_kind d.kind)))

definitions : (all : List Definition) → Takes (sum_by definition_count (plain_definitions all)) (all_signs unparsed.definition all)
definitions [] = none
definitions (d ∷ all) = let sum = sum_by-cons definition_count (definition_of d) (plain_definitions all) in takes_some (omega (arith, sum)) (both (definition d) (definitions all))

-- all that is written in a file has tokens of its own
pub file_count : (f : Fragment) (tokens : List Lexeme) → UnparsesTo (unparsed.fragment f) tokens [] → sum_by definition_count (plain_definitions f.definitions) ≤ length tokens
file_count f tokens is = let all = (definitions f.definitions).least tokens [] is in omega (arith, all)

-- and so has each definition
pub file_definitions : (f : Fragment) (tokens : List Lexeme) → UnparsesTo (unparsed.fragment f) tokens [] → length f.definitions ≤ length tokens
file_definitions f tokens is = let all = (count_take unparsed.definition one_definition f.definitions).least tokens [] is in omega (arith, all)

-- what is counted in all, counted by definitions
pub counted : (all : List PlainDefinition) → written_count all ≡ sum_by definition_count all
counted [] = omega arith
counted (d ∷ all) =
    let nodes = length-append (nodes_of_definition d) (nodes_of all) in
    let values = sum_by-cons (λ (x : PlainDefinition). length (values_in x.kind)) d all in
    let both = sum_by-cons definition_count d all in
    let rest = counted all in
    omega (arith, nodes, values, both, rest)
