-- A tree that spells a file has no type of more than 16 levels: no sign of it is of nothing.
use Rattle.std.proofs.Common.{◌≡◌, ◌≤◌, ◌<◌, length, get_or, ℕ, zero, suc, Bool, true, false, Option, Some, None, List, [], ◌∷◌, ◌++◌, refl, subst, arith, max}
use Rattle.std.specs.Prelude.{map, flat_map, option_map, Contains}
use Rattle.std.specs.Global.{Box}
use Rattle.widl_idl.specs.Meanings.{declared_name}
use Rattle.widl_idl.specs.Nodes.{Node, TypeNode, AttributeNode, LiteralNode, NameNode, MemberNode, CallbackMemberNode, nodes_of_attributes, nodes_of_form, nodes_of_type, nodes_of_annotated, nodes_of_union, nodes_of_default, nodes_of_argument_kind, nodes_of_argument, nodes_of_arguments, nodes_of_optional_arguments, nodes_of_optional_name, nodes_of_optional_type, nodes_of_member_kind, nodes_of_member, nodes_of_callback_member, nodes_of_dictionary_member, nodes_inside, nodes_of_definition, nodes_of}
use Rattle.widl_idl.specs.PlainTrees.{PlainKind, argument_kind_of, argument_of, arguments_of, member_kind_of, member_of, members_of, dictionary_member_of, definition_kind_of, definition_of, plain_definitions}
use Rattle.widl_idl.specs.PlainTypes.{PlainName, PlainAttribute, PlainForm, PlainType, PlainAnnotated, PlainMembers, PlainContainer, PlainRecord, PlainPromise, PlainUnion, plain_type, plain_annotated, no_plain, more_plain, name_of, attribute_of, written_default, plain_of, plain_inner, type_of, annotated_of}
use Rattle.widl_idl.specs.TypeTrees.{AnnotatedTree, TypeTree, annotated_tree, tree_of_type, tree_of_annotated}
use Rattle.widl_idl.specs.declared.tree.arguments.Argument.{Argument}
use Rattle.widl_idl.specs.declared.tree.arguments.ArgumentKind.{ArgumentKind}
use Rattle.widl_idl.specs.declared.tree.arguments.ArgumentKind.TheVariants as argument_kind
use Rattle.widl_idl.specs.declared.tree.definitions.Definition.{Definition}
use Rattle.widl_idl.specs.declared.tree.definitions.DefinitionKind.{DefinitionKind}
use Rattle.widl_idl.specs.declared.tree.definitions.DefinitionKind.TheVariants as kind
use Rattle.widl_idl.specs.declared.tree.dictionaries.DictionaryMember.{DictionaryMember}
use Rattle.widl_idl.specs.declared.tree.literals.Literal.{Literal}
use Rattle.widl_idl.specs.declared.tree.members.Member.{Member}
use Rattle.widl_idl.specs.declared.tree.members.MemberKind.{MemberKind}
use Rattle.widl_idl.specs.declared.tree.members.MemberKind.TheVariants as member_kinds
use Rattle.widl_idl.specs.declared.tree.types.AnnotatedType.{AnnotatedType}
use Rattle.widl_idl.specs.declared.tree.types.WrittenType.{WrittenType}
use Rattle.widl_lex.specs.Tokens.{Lexeme}
use Rattle.widl_grammar.specs.declared.rule.Rule.TheVariants.{ArgumentName}
use Rattle.widl_grammar.specs.declared.terminal.Terminal.{Terminal}
use Rattle.widl_grammar.specs.declared.terminal.Terminal.TheVariants as t
use Rattle.widl_syntax.specs.Nesting.{form_levels, type_levels, annotated_levels, member_levels}
use Rattle.widl_syntax.specs.Signs.{Sign, UnparsesTo, all_signs, separated, after, word, at, ◌⧺◌}
use Rattle.widl_syntax.specs.UnparsedDefinitions.{definition, after_partial, is_partial, member_type, dictionary_member, parent}
use Rattle.widl_syntax.specs.UnparsedMembers.{argument, argument_rest, in_parentheses, optional_arguments, member, member_kind, attribute_word, operation_word, async_words}
use Rattle.widl_syntax.specs.UnparsedNames.{any_name, optional_name, identifier, extended_attributes, word_if}
use Rattle.widl_syntax.specs.UnparsedTypes.{outer_signs, written_type, annotated_type, outer_annotated, bare_type, bare_signs, second_type}
use Rattle.widl_syntax.proofs.Unique.Ahead.{split}
use Rattle.widl_syntax.proofs.Unique.Types.{has_levels}

-- signs that stand for some tokens
record Told (x : List Sign) : Type 0 where
  pub from : List Lexeme
  pub to : List Lexeme
  pub is : UnparsesTo x from to

told_first : (x y : List Sign) → Told (x ++ y) → Told x
told_first x y t = let a = split x y t.from t.to t.is in record { from = t.from; to = a.0; is = a.1 }

told_rest : (x y : List Sign) → Told (x ++ y) → Told y
told_rest x y t = let a = split x y t.from t.to t.is in record { from = a.0; to = t.to; is = a.2 }

told_after : {s : Sign} {x : List Sign} → Told (s ∷ x) → Told x
told_after t = record { from = t.is.0; to = t.to; is = t.is.2 }

-- a node that has at most 16 levels if it is a type
abbrev IsFit : Node → Type 0
IsFit (TypeNode ty) = type_levels ty ≤ 16
IsFit node = Unit {0}

abbrev AllFit : List Node → Type 0
AllFit [] = Unit {0}
AllFit (node ∷ more) = IsFit node × AllFit more

record Fits (nodes : List Node) : Type 0 where
  pub all : AllFit nodes

nothing : Fits []
nothing = record { all = tt }

both_fit : (a b : List Node) → AllFit a → AllFit b → AllFit (a ++ b)
both_fit [] b p q = q
both_fit (n ∷ a) b p q = (p.0, both_fit a b p.1 q)

joined : {a b : List Node} → Fits a → Fits b → Fits (a ++ b)
joined {a} {b} p q = record { all = both_fit a b p.all q.all }

attributes : (xs : List PlainAttribute) → Fits (nodes_of_attributes xs)
attributes [] = nothing
attributes (x ∷ xs) = record { all = (tt, (attributes xs).all) }

mutual
  form_fits : (form : PlainForm) → form_levels form ≤ 16 → Fits (nodes_of_form form)
  form_fits (PlainContainer container inner) le = annotated_fits inner (omega (arith, le))
  form_fits (PlainRecord key inner) le = annotated_fits inner (omega (arith, le))
  form_fits (PlainPromise inner) le = type_fits inner (omega (arith, le))
  form_fits (PlainUnion members) le = union_fits members (omega (arith, le))
  form_fits _ le = nothing

  type_fits : (ty : PlainType) → type_levels ty ≤ 16 → Fits (nodes_of_type ty)
  type_fits (plain_type place form question) le = record { all = (le, (form_fits form le).all) }

  annotated_fits : (ty : PlainAnnotated) → annotated_levels ty ≤ 16 → Fits (nodes_of_annotated ty)
  annotated_fits (plain_annotated place xs inner) le = joined (attributes xs) (type_fits inner le)

  union_fits : (members : PlainMembers) → member_levels members ≤ 16 → Fits (nodes_of_union members)
  union_fits no_plain le = nothing
  union_fits (more_plain member more) le = joined (annotated_fits member (omega (arith, le))) (union_fits more (omega (arith, le)))

-- types
outer : (ty : TypeTree) → Told (outer_signs ty) → Fits (nodes_of_type (plain_of ty))
outer ty told = type_fits (plain_of ty) (has_levels ty told.from told.to told.is).1

written : (ty : WrittenType) → Told (written_type ty) → Fits (nodes_of_type (type_of ty))
written ty told = outer (tree_of_type ty) told

annotated_of_tree : (ty : AnnotatedTree) → Told (outer_annotated ty) → Fits (nodes_of_annotated (plain_inner ty))
annotated_of_tree (annotated_tree place xs inner) told = joined (attributes (map attribute_of xs)) (outer inner (told_rest (extended_attributes xs) _ (told_after told)))

annotated : (ty : AnnotatedType) → Told (annotated_type ty) → Fits (nodes_of_annotated (annotated_of ty))
annotated ty told = annotated_of_tree (tree_of_annotated ty) told

bare_of_tree : (ty : AnnotatedTree) → Told (bare_signs ty) → Fits (nodes_of_annotated (plain_inner ty))
bare_of_tree (annotated_tree place [] inner) told = outer inner (told_after told)
bare_of_tree (annotated_tree place (x ∷ xs) inner) told = absurd told.is.1

bare : (ty : AnnotatedType) → Told (bare_type ty) → Fits (nodes_of_annotated (annotated_of ty))
bare ty told = bare_of_tree (tree_of_annotated ty) told

second : (ty : Option AnnotatedType) → Told (second_type ty) → Fits (nodes_of_optional_type (option_map annotated_of ty))
second None told = nothing
second (Some ty) told = annotated ty (told_after told)

default_fits : (value : Option (Box Literal)) → Fits (nodes_of_default (written_default value))
default_fits None = nothing
default_fits (Some value) = record { all = (tt, tt) }

-- lists
all_of : {X Y : Type 0} (one : X → List Sign) (plain : X → Y) (nodes : Y → List Node) → ((x : X) → Told (one x) → Fits (nodes (plain x))) → (xs : List X) → Told (all_signs one xs) → Fits (flat_map nodes (map plain xs))
all_of one plain nodes f [] told = nothing
all_of one plain nodes f (x ∷ xs) told = joined (f x (told_first (one x) _ told)) (all_of one plain nodes f xs (told_rest (one x) _ told))

separated_all : {X Y : Type 0} (separator : Terminal) (one : X → List Sign) (plain : X → Y) (nodes : Y → List Node) → ((x : X) → Told (one x) → Fits (nodes (plain x))) → (xs : List X) → Told (separated separator one xs) → Fits (flat_map nodes (map plain xs))
separated_all separator one plain nodes f [] told = nothing
separated_all separator one plain nodes f (x ∷ xs) told = joined (f x (told_first (one x) _ told)) (all_of (after separator one) plain nodes (λ y q. f y (told_after q)) xs (told_rest (one x) _ told))

-- arguments
argument_type : (k : ArgumentKind) (ty : AnnotatedType) (name : List Sign) → Told (argument_rest k ty name) → Fits (nodes_of_annotated (annotated_of ty))
argument_type argument_kind.Required ty name told = bare ty (told_first (bare_type ty) _ told)
argument_type (argument_kind.Optional value) ty name told = annotated ty (told_first (annotated_type ty) _ (told_after told))
argument_type (argument_kind.Variadic place) ty name told = bare ty (told_first (bare_type ty) _ told)

argument_default : (k : ArgumentKind) → Fits (nodes_of_argument_kind (argument_kind_of k))
argument_default argument_kind.Required = nothing
argument_default (argument_kind.Optional value) = default_fits value
argument_default (argument_kind.Variadic place) = nothing

an_argument : (a : Argument) → Told (argument a) → Fits (nodes_of_argument (argument_of a))
an_argument a told = joined (attributes (map attribute_of a.attributes)) (joined (argument_type a.kind a.ty (any_name ArgumentName a.name) (told_rest (extended_attributes a.attributes) _ told)) (argument_default a.kind))

arguments : (xs : List Argument) → Told (in_parentheses xs) → Fits (nodes_of_arguments (arguments_of xs))
arguments xs told = separated_all t.Comma argument argument_of nodes_of_argument an_argument xs (told_first (separated t.Comma argument xs) _ (told_after told))

some_arguments : (xs : Option (List Argument)) → Told (optional_arguments xs) → Fits (nodes_of_optional_arguments (option_map arguments_of xs))
some_arguments None told = nothing
some_arguments (Some xs) told = arguments xs told

-- members
a_name : (name : Option PlainName) → Fits (nodes_of_optional_name name)
a_name None = nothing
a_name (Some name) = record { all = (tt, tt) }

a_member_kind : (k : MemberKind) → Told (member_kind k) → Fits (nodes_of_member_kind (member_kind_of k))
a_member_kind (member_kinds.Constant c) told = record { all = (tt, (tt, (written c.value.ty (told_first (written_type c.value.ty) _ (told_after (told_after told)))).all)) }
a_member_kind (member_kinds.Attribute a) told =
    let rest = told_after (told_rest (word_if a.readonly t.Readonly) _ (told_rest (attribute_word a.kind) _ told)) in
    record { all = (tt, (annotated a.ty (told_first (annotated_type a.ty) _ rest)).all) }
a_member_kind (member_kinds.Operation o) told =
    let rest = told_rest (operation_word o.kind) _ told in
    let place = told_rest (optional_name o.name) _ (told_rest (written_type o.result) _ rest) in
    joined (a_name (option_map name_of o.name)) (joined (written o.result (told_first (written_type o.result) _ rest)) (arguments o.arguments (told_first (in_parentheses o.arguments) _ (told_after place))))
a_member_kind (member_kinds.Constructor c) told = arguments c.arguments (told_first (in_parentheses c.arguments) _ (told_after (told_after told)))
a_member_kind (member_kinds.Stringifier s) told = nothing
a_member_kind (member_kinds.Iterable i) told =
    let rest = told_after (told_after (told_after told)) in
    joined (annotated i.value.first (told_first (annotated_type i.value.first) _ rest)) (second i.value.second (told_first (second_type i.value.second) _ (told_rest (annotated_type i.value.first) _ rest)))
a_member_kind (member_kinds.AsyncIterable i) told =
    let rest = told_after (told_rest (async_words i.value.word) _ (told_after told)) in
    let further = told_rest (annotated_type i.value.first) _ rest in
    joined (annotated i.value.first (told_first (annotated_type i.value.first) _ rest)) (joined (second i.value.second (told_first (second_type i.value.second) _ further)) (some_arguments i.value.arguments (told_first (optional_arguments i.value.arguments) _ (told_after (told_rest (second_type i.value.second) _ further)))))
a_member_kind (member_kinds.Maplike m) told =
    let rest = told_after (told_after (told_after (told_rest (word_if m.value.readonly t.Readonly) _ told))) in
    joined (annotated m.value.key (told_first (annotated_type m.value.key) _ rest)) (annotated m.value.value (told_first (annotated_type m.value.value) _ (told_after (told_rest (annotated_type m.value.key) _ rest))))
a_member_kind (member_kinds.Setlike s) told =
    annotated s.value.value (told_first (annotated_type s.value.value) _ (told_after (told_after (told_after (told_rest (word_if s.value.readonly t.Readonly) _ told)))))

a_member : (m : Member) → Told (member m) → Fits (nodes_of_member (member_of m))
a_member m told = record { all = (tt, (joined (attributes (map attribute_of m.attributes)) (a_member_kind m.kind (told_rest (extended_attributes m.attributes) _ told))).all) }

a_callback_member : (m : Member) → Told (member m) → Fits (nodes_of_callback_member (member_of m))
a_callback_member m told = record { all = (tt, (joined (attributes (map attribute_of m.attributes)) (a_member_kind m.kind (told_rest (extended_attributes m.attributes) _ told))).all) }

members : (xs : List Member) → Told (all_signs member xs) → Fits (flat_map nodes_of_member (members_of xs))
members xs told = all_of member member_of nodes_of_member a_member xs told

a_member_type : (needed : Bool) (ty : AnnotatedType) → Told (member_type needed ty) → Fits (nodes_of_annotated (annotated_of ty))
a_member_type true ty told = annotated ty (told_after told)
a_member_type false ty told = bare ty told

a_dictionary_member : (m : DictionaryMember) → Told (dictionary_member m) → Fits (nodes_of_dictionary_member (dictionary_member_of m))
a_dictionary_member m told =
    let rest = told_rest (extended_attributes m.attributes) _ told in
    record { all = (tt, (joined (attributes (map attribute_of m.attributes)) (joined (a_member_type m.required m.ty (told_first (member_type m.required m.ty) _ rest)) (default_fits m.default))).all) }

-- definitions
a_definition_kind : (k : DefinitionKind) → Told (after_partial k) → Fits (nodes_inside (definition_kind_of k))
a_definition_kind (kind.Callback c) told =
    let rest = told_after (told_rest (identifier c.name) _ (told_after told)) in
    joined (written c.result (told_first (written_type c.result) _ rest)) (arguments c.arguments (told_first (in_parentheses c.arguments) _ (told_rest (written_type c.result) _ rest)))
a_definition_kind (kind.CallbackInterface c) told =
    all_of member member_of nodes_of_callback_member a_callback_member c.members (told_first (all_signs member c.members) _ (told_after (told_rest (identifier c.name) _ (told_after (told_after told)))))
a_definition_kind (kind.Interface i) told =
    members i.members (told_first (all_signs member i.members) _ (told_after (told_rest (parent i.parent) _ (told_rest (identifier i.name) _ (told_after told)))))
a_definition_kind (kind.Mixin m) told =
    members m.members (told_first (all_signs member m.members) _ (told_after (told_rest (identifier m.name) _ (told_after (told_after told)))))
a_definition_kind (kind.Namespace n) told =
    members n.members (told_first (all_signs member n.members) _ (told_after (told_rest (identifier n.name) _ (told_after told))))
a_definition_kind (kind.Dictionary d) told =
    all_of dictionary_member dictionary_member_of nodes_of_dictionary_member a_dictionary_member d.members (told_first (all_signs dictionary_member d.members) _ (told_after (told_rest (parent d.parent) _ (told_rest (identifier d.name) _ (told_after told)))))
a_definition_kind (kind.Enumeration e) told = nothing
a_definition_kind (kind.Typedef d) told = annotated d.ty (told_first (annotated_type d.ty) _ (told_after told))
a_definition_kind (kind.Includes i) told = nothing

a_definition : (d : Definition) → Told (definition d) → Fits (nodes_of_definition (definition_of d))
a_definition d told =
    let rest = told_rest (word_if (is_partial d.kind) t.Partial) _ (told_rest (extended_attributes d.attributes) _ told) in
    joined (attributes (map attribute_of d.attributes)) (joined (a_name (declared_name (definition_kind_of d.kind))) (a_definition_kind d.kind rest))

-- one of the nodes
fits_at : (nodes : List Node) (i : ℕ) → AllFit nodes → i < length nodes → (other : Node) → IsFit (get_or nodes i other)
fits_at [] i all lt other = absurd (omega arith)
fits_at (node ∷ more) zero all lt other = all.0
fits_at (node ∷ more) (suc i) all lt other = fits_at more i all.1 (omega (arith, lt)) other

pub file_levels : (definitions : List Definition) (from to : List Lexeme) → UnparsesTo (all_signs definition definitions) from to → (ty : PlainType) → Contains (nodes_of (plain_definitions definitions)) (TypeNode ty) → type_levels ty ≤ 16
file_levels definitions from to is ty has =
    let all = all_of definition definition_of nodes_of_definition a_definition definitions (record { from = from; to = to; is = is }) in
    subst IsFit has.2 (fits_at (nodes_of (plain_definitions definitions)) has.0 all.all has.1 (TypeNode ty))
