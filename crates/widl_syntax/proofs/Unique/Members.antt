-- Members have one spelling each.
use Rattle.std.proofs.Common.{◌≡◌, true, Option, Some, None, List, [], ◌∷◌, ◌++◌, refl, ap}
use Rattle.widl_idl.specs.declared.tree.constants.Constant.{Constant}
use Rattle.widl_idl.specs.declared.tree.iterables.AsyncIterable.{AsyncIterable}
use Rattle.widl_idl.specs.declared.tree.iterables.AsyncWord.{AsyncWord}
use Rattle.widl_idl.specs.declared.tree.iterables.AsyncWord.TheVariants.{TwoWords, OneWord}
use Rattle.widl_idl.specs.declared.tree.iterables.Iterable.{Iterable}
use Rattle.widl_idl.specs.declared.tree.iterables.Maplike.{Maplike}
use Rattle.widl_idl.specs.declared.tree.iterables.Setlike.{Setlike}
use Rattle.widl_idl.specs.declared.tree.members.Attribute.{Attribute}
use Rattle.widl_idl.specs.declared.tree.members.AttributeKind.{AttributeKind}
use Rattle.widl_idl.specs.declared.tree.members.AttributeKind.TheVariants as attribute_kind
use Rattle.widl_idl.specs.declared.tree.members.Constructor.{Constructor}
use Rattle.widl_idl.specs.declared.tree.members.Stringifier.{Stringifier}
use Rattle.widl_idl.specs.declared.tree.names.Name.{Name}
use Rattle.widl_idl.specs.declared.tree.operations.Operation.{Operation}
use Rattle.widl_idl.specs.declared.tree.operations.OperationKind.{OperationKind}
use Rattle.widl_idl.specs.declared.tree.operations.OperationKind.TheVariants as operation_kind
use Rattle.widl_idl.specs.declared.tree.operations.SpecialWord.{SpecialWord}
use Rattle.widl_idl.specs.declared.tree.operations.SpecialWord.TheVariants.{Getter, Setter, Deleter}
use Rattle.widl_idl.specs.TypeTrees.{tree_of_type, tree_of_annotated}
use Rattle.widl_text.specs.declared.place.Place.{Place}
use Rattle.widl_grammar.specs.declared.rule.Rule.TheVariants.{AttributeName, OperationName}
use Rattle.widl_grammar.specs.declared.terminal.Terminal.{Terminal}
use Rattle.widl_grammar.specs.declared.terminal.Terminal.TheVariants as t
use Rattle.widl_syntax.specs.Signs.{Sign, word, at, ◌⧺◌}
use Rattle.widl_syntax.specs.UnparsedNames.{any_name, optional_name, word_if}
use Rattle.widl_syntax.specs.UnparsedTypes.{second_type}
use Rattle.widl_syntax.specs.UnparsedMembers.{constant, attribute_word, attribute_rest, attribute, special_terminal, operation_word, operation, constructor, stringifier, iterable, async_words, async_iterable, maplike_rest, setlike_rest, in_parentheses, optional_arguments}
use Rattle.widl_syntax.proofs.Unique.Same.{SameConstant, SameAttribute, SameOperation, SameConstructor, SameIterable, SameAsyncIterable, SameMaplike, SameSetlike}
use Rattle.widl_syntax.proofs.Unique.Ahead.{Keeps, NoneAhead, Anywhere, avoids, begins_else, begins_with, first_keeps, then_keeps}
use Rattle.widl_syntax.proofs.Unique.Tells.{Tells, told, nothing_told, and_tells, then_tells, place_then, terminal_then, word_then, word_told, Apart, apart, apart_back, clash_apart, clashes, and_else, and_word, up_to}
use Rattle.widl_syntax.proofs.Unique.Items.{Excludes, not_without_any, none_some, some_none, word_if_tells, word_if_keeps}
use Rattle.widl_syntax.proofs.Unique.Names.{identifier_tells, any_name_tells, optional_name_tells, literal_tells}
use Rattle.widl_syntax.proofs.Unique.Types.{TypeEnd, type_tells, annotated_tells, type_keeps, second_type_tells, second_type_keeps}
use Rattle.widl_syntax.proofs.Unique.Arguments.{in_parentheses_tells, optional_arguments_tell}

pub constant_tells : (a b : Constant) → Tells (SameConstant a b) Anywhere (constant a) (constant b)
constant_tells a b =
    told (place_then a.at b.at (word_then t.Const
    (and_else refl refl (type_tells (tree_of_type a.ty) (tree_of_type b.ty))
    (then_tells (identifier_tells a.name b.name) (word_then t.Equals
    (then_tells (literal_tells a.value b.value) (word_told t.Semicolon)))))))
    (λ p. record { at = p.0; ty = p.1.0; name = p.1.1.0; value = p.1.1.1.0 })

-- the words that say whose an attribute is
abbrev attribute_words : List Terminal
attribute_words = t.Static ∷ t.Inherit ∷ t.Stringifier ∷ []

attribute_word_tells : (a b : AttributeKind) → Tells (a ≡ b) (NoneAhead attribute_words) (attribute_word a) (attribute_word b)
attribute_word_tells attribute_kind.Regular attribute_kind.Regular = told nothing_told (λ u. refl)
attribute_word_tells attribute_kind.Static attribute_kind.Static = told (word_told t.Static) (λ u. refl)
attribute_word_tells (attribute_kind.Inherited p) (attribute_kind.Inherited q) = told (place_then p q (word_told t.Inherit)) (λ s. ap attribute_kind.Inherited s.0)
attribute_word_tells (attribute_kind.Stringifier p) (attribute_kind.Stringifier q) = told (place_then p q (word_told t.Stringifier)) (λ s. ap attribute_kind.Stringifier s.0)
attribute_word_tells attribute_kind.Regular b = none_some (not_without_any attribute_words (attribute_word b) refl refl)
attribute_word_tells a attribute_kind.Regular = some_none (not_without_any attribute_words (attribute_word a) refl refl)
attribute_word_tells a b = clashes (attribute_word a) (attribute_word b) refl

pub attribute_tells : (a b : Attribute) → Tells (SameAttribute a b) Anywhere (attribute a) (attribute b)
attribute_tells a b =
    told (and_tells (attribute_word_tells a.kind b.kind)
    (and_else refl refl (word_if_tells t.Readonly a.readonly b.readonly refl) (word_then t.Attribute
    (and_else refl refl (annotated_tells (tree_of_annotated a.ty) (tree_of_annotated b.ty))
    (then_tells (any_name_tells AttributeName a.name b.name) (word_told t.Semicolon)))))
    (readonly_keeps a) (readonly_keeps b))
    (λ p. record { kind = p.0; readonly = p.1.0; ty = p.1.1.0; name = p.1.1.1.0 })
  where
    readonly_keeps : (c : Attribute) → Keeps (NoneAhead attribute_words) Anywhere (word_if c.readonly t.Readonly ⧺ attribute_rest c)
    readonly_keeps c = word_if_keeps t.Readonly c.readonly (attribute_rest c) attribute_words refl (begins_else (attribute_rest c) attribute_words refl)

-- the words before operations
abbrev operation_words : List Terminal
operation_words = t.Static ∷ t.Getter ∷ t.Setter ∷ t.Deleter ∷ []

special_known : (a b : SpecialWord) → special_terminal a ≡ special_terminal b → a ≡ b
special_known Getter Getter e = refl
special_known Setter Setter e = refl
special_known Deleter Deleter e = refl
special_known a b e = cc

special_excluded : (a : SpecialWord) (p : Place) → Excludes (NoneAhead operation_words) (operation_word (operation_kind.Special a p))
special_excluded Getter p = not_without_any operation_words (operation_word (operation_kind.Special Getter p)) refl refl
special_excluded a p = not_without_any operation_words (operation_word (operation_kind.Special a p)) refl refl

special_apart : (a : SpecialWord) (p : Place) → Apart (word t.Static) (operation_word (operation_kind.Special a p))
special_apart Getter p = clash_apart (word t.Static) (operation_word (operation_kind.Special Getter p)) refl
special_apart a p = clash_apart (word t.Static) (operation_word (operation_kind.Special a p)) refl

operation_word_tells : (a b : OperationKind) → Tells (a ≡ b) (NoneAhead operation_words) (operation_word a) (operation_word b)
operation_word_tells operation_kind.Regular operation_kind.Regular = told nothing_told (λ u. refl)
operation_word_tells operation_kind.Static operation_kind.Static = told (word_told t.Static) (λ u. refl)
operation_word_tells (operation_kind.Special a p) (operation_kind.Special b q) =
    told (place_then p q (terminal_then (special_terminal a) (special_terminal b) nothing_told)) (λ s. λ i. operation_kind.Special (special_known a b s.1.0 i) (s.0 i))
operation_word_tells operation_kind.Regular operation_kind.Static = none_some (not_without_any operation_words (word t.Static) refl refl)
operation_word_tells operation_kind.Static operation_kind.Regular = some_none (not_without_any operation_words (word t.Static) refl refl)
operation_word_tells operation_kind.Regular (operation_kind.Special b q) = none_some (special_excluded b q)
operation_word_tells (operation_kind.Special a p) operation_kind.Regular = some_none (special_excluded a p)
operation_word_tells operation_kind.Static (operation_kind.Special b q) = apart (special_apart b q)
operation_word_tells (operation_kind.Special a p) operation_kind.Static = apart_back (special_apart a p)

name_keeps : (name : Option Name) (x : List Sign) → avoids x (t.Question ∷ t.Long ∷ []) ≡ true → Keeps TypeEnd Anywhere (optional_name name ++ x)
name_keeps None x h = begins_else x (t.Question ∷ t.Long ∷ []) h
name_keeps (Some name) x h = begins_else (any_name OperationName name ++ x) (t.Question ∷ t.Long ∷ []) refl

pub operation_tells : (a b : Operation) → Tells (SameOperation a b) Anywhere (operation a) (operation b)
operation_tells a b =
    told (and_tells (operation_word_tells a.kind b.kind)
    (and_tells (type_tells (tree_of_type a.result) (tree_of_type b.result))
    (and_tells (optional_name_tells a.name b.name)
    (place_then a.open b.open (then_tells (in_parentheses_tells a.arguments b.arguments) (word_told t.Semicolon)))
    (begins_with (at a.open ⧺ in_parentheses a.arguments ⧺ word t.Semicolon) t.OpenParen refl refl) (begins_with (at b.open ⧺ in_parentheses b.arguments ⧺ word t.Semicolon) t.OpenParen refl refl))
    (name_keeps a.name _ refl) (name_keeps b.name _ refl))
    (first_keeps _ (type_keeps (tree_of_type a.result) operation_words refl)) (first_keeps _ (type_keeps (tree_of_type b.result) operation_words refl)))
    (λ p. record { kind = p.0; result_type = p.1.0; name = p.1.1.0; open_at = p.1.1.1.0; arguments = p.1.1.1.1.0 })

pub constructor_tells : (a b : Constructor) → Tells (SameConstructor a b) Anywhere (constructor a) (constructor b)
constructor_tells a b =
    told (place_then a.at b.at (word_then t.Constructor (then_tells (in_parentheses_tells a.arguments b.arguments) (word_told t.Semicolon))))
    (λ p. record { at = p.0; arguments = p.1.0 })

pub stringifier_tells : (a b : Stringifier) → Tells (a.at ≡ b.at) Anywhere (stringifier a) (stringifier b)
stringifier_tells a b = told (place_then a.at b.at (word_then t.Stringifier (word_told t.Semicolon))) (λ p. p.0)

pub iterable_tells : (a b : Iterable) → Tells (SameIterable a b) Anywhere (iterable a) (iterable b)
iterable_tells a b =
    told (place_then a.at b.at (word_then t.Iterable (word_then t.Less
    (and_tells (annotated_tells (tree_of_annotated a.first) (tree_of_annotated b.first))
    (up_to t.Greater refl (second_type_tells a.second b.second) (word_told t.Semicolon))
    (second_keeps a) (second_keeps b)))))
    (λ p. record { at = p.0; first = p.1.0; second = p.1.1.0 })
  where
    second_keeps : (c : Iterable) → Keeps TypeEnd Anywhere (second_type c.second ⧺ word t.Greater ⧺ word t.Semicolon)
    second_keeps c = then_keeps (second_type_keeps c.second) (begins_with (word t.Greater ⧺ word t.Semicolon) t.Greater refl refl)

async_words_tell : (a b : AsyncWord) → Tells (a ≡ b) Anywhere (async_words a) (async_words b)
async_words_tell TwoWords TwoWords = told (word_then t.Async (word_told t.Iterable)) (λ u. refl)
async_words_tell OneWord OneWord = told (word_told t.AsyncIterable) (λ u. refl)
async_words_tell a b = clashes (async_words a) (async_words b) refl

pub async_iterable_tells : (a b : AsyncIterable) → Tells (SameAsyncIterable a b) Anywhere (async_iterable a) (async_iterable b)
async_iterable_tells a b =
    told (place_then a.at b.at (then_tells (async_words_tell a.word b.word) (word_then t.Less
    (and_tells (annotated_tells (tree_of_annotated a.first) (tree_of_annotated b.first))
    (up_to t.Greater refl (second_type_tells a.second b.second)
    (up_to t.Semicolon refl (optional_arguments_tell a.arguments b.arguments) nothing_told))
    (second_keeps a) (second_keeps b)))))
    (λ p. record { at = p.0; word = p.1.0; first = p.1.1.0; second = p.1.1.1.0; arguments = p.1.1.1.1.0 })
  where
    second_keeps : (c : AsyncIterable) → Keeps TypeEnd Anywhere (second_type c.second ⧺ word t.Greater ⧺ optional_arguments c.arguments ⧺ word t.Semicolon)
    second_keeps c = then_keeps (second_type_keeps c.second) (begins_with (word t.Greater ⧺ optional_arguments c.arguments ⧺ word t.Semicolon) t.Greater refl refl)

pub maplike_tells : (a b : Maplike) → Tells (SameMaplike a b) Anywhere (word_if a.readonly t.Readonly ⧺ maplike_rest a) (word_if b.readonly t.Readonly ⧺ maplike_rest b)
maplike_tells a b =
    told (and_else refl refl (word_if_tells t.Readonly a.readonly b.readonly refl)
    (place_then a.at b.at (word_then t.Maplike (word_then t.Less
    (and_word t.Comma refl (annotated_tells (tree_of_annotated a.key) (tree_of_annotated b.key))
    (and_word t.Greater refl (annotated_tells (tree_of_annotated a.value) (tree_of_annotated b.value)) (word_told t.Semicolon)))))))
    (λ p. record { readonly = p.0; at = p.1.0; key = p.1.1.0; value = p.1.1.1.0 })

pub setlike_tells : (a b : Setlike) → Tells (SameSetlike a b) Anywhere (word_if a.readonly t.Readonly ⧺ setlike_rest a) (word_if b.readonly t.Readonly ⧺ setlike_rest b)
setlike_tells a b =
    told (and_else refl refl (word_if_tells t.Readonly a.readonly b.readonly refl)
    (place_then a.at b.at (word_then t.Setlike (word_then t.Less
    (and_word t.Greater refl (annotated_tells (tree_of_annotated a.value) (tree_of_annotated b.value)) (word_told t.Semicolon))))))
    (λ p. record { readonly = p.0; at = p.1.0; value = p.1.1.0 })
