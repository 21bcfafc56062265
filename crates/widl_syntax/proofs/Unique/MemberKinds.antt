-- The first two tokens of a member tell of which kind it is.
use Rattle.std.proofs.Common.{◌≡◌, ℕ, Bool, true, false, List, [], ◌∷◌, refl, ◌∙◌, ap, drop}
use Rattle.widl_idl.specs.declared.tree.iterables.AsyncWord.{AsyncWord}
use Rattle.widl_idl.specs.declared.tree.iterables.AsyncWord.TheVariants.{TwoWords, OneWord}
use Rattle.widl_idl.specs.declared.tree.members.AttributeKind.{AttributeKind}
use Rattle.widl_idl.specs.declared.tree.members.AttributeKind.TheVariants as attribute_kind
use Rattle.widl_idl.specs.declared.tree.members.Member.{Member}
use Rattle.widl_idl.specs.declared.tree.members.MemberKind.{MemberKind}
use Rattle.widl_idl.specs.declared.tree.members.MemberKind.TheVariants as kind
use Rattle.widl_idl.specs.declared.tree.operations.OperationKind.{OperationKind}
use Rattle.widl_idl.specs.declared.tree.operations.OperationKind.TheVariants as operation_kind
use Rattle.widl_idl.specs.declared.tree.operations.SpecialWord.TheVariants.{Getter, Setter, Deleter}
use Rattle.widl_idl.specs.TypeTrees.{TypeTree, tree_of_type}
use Rattle.widl_lex.specs.Tokens.{Lexeme}
use Rattle.widl_grammar.specs.declared.terminal.Terminal.{Terminal}
use Rattle.widl_grammar.specs.declared.terminal.Terminal.TheVariants as t
use Rattle.widl_syntax.specs.Signs.{Sign, UnparsesTo, word, all_signs, ◌⧺◌}
use Rattle.widl_syntax.specs.UnparsedNames.{word_if}
use Rattle.widl_syntax.specs.UnparsedTypes.{outer_signs}
use Rattle.widl_syntax.specs.UnparsedMembers.{constant, attribute_word, operation_word, constructor, stringifier, iterable, async_words, maplike_rest, setlike_rest, member_kind, member}
use Rattle.widl_syntax.proofs.Unique.Same.{SameMemberKind, SameMember, SameMembers}
use Rattle.widl_syntax.specs.Reading.{terminal_ahead}
use Rattle.widl_syntax.proofs.Reading.{is_among, is_other}
use Rattle.widl_syntax.proofs.Unique.Ahead.{Keeps, NoneAhead, IsAhead, Anywhere, without_place, after_word, head, begins_else, first_keeps, place_keeps, keeps_anywhere, keeps_fewer}
use Rattle.widl_syntax.proofs.Unique.Tells.{Tells, told, and_tells}
use Rattle.widl_syntax.proofs.Unique.Items.{ItemsTell, not_before, word_if_keeps, items_tell}
use Rattle.widl_syntax.proofs.Unique.Numbers.{number_at, by_first, by_two, of_one_number, other_number}
use Rattle.widl_syntax.proofs.Unique.Names.{extended_attributes_tell, after_attributes}
use Rattle.widl_syntax.proofs.Unique.Types.{type_keeps}
use Rattle.widl_syntax.proofs.Unique.Members.{constant_tells, attribute_tells, operation_tells, constructor_tells, stringifier_tells, iterable_tells, async_iterable_tells, maplike_tells, setlike_tells}

abbrev number_of : MemberKind → ℕ
number_of (kind.Constant c) = 0
number_of (kind.Attribute a) = 1
number_of (kind.Operation o) = 2
number_of (kind.Constructor c) = 3
number_of (kind.Stringifier s) = 4
number_of (kind.Iterable i) = 5
number_of (kind.AsyncIterable i) = 6
number_of (kind.Maplike m) = 7
number_of (kind.Setlike s) = 8

-- the number by the second word, after `readonly`, `static` and `stringifier`
abbrev after_readonly : Terminal → ℕ
after_readonly t.Maplike = 7
after_readonly t.Setlike = 8
after_readonly _ = 1

abbrev after_static : Terminal → ℕ
after_static t.Attribute = 1
after_static t.Readonly = 1
after_static _ = 2

abbrev after_stringifier : Terminal → ℕ
after_stringifier t.Semicolon = 4
after_stringifier _ = 1

-- the number by the first two tokens
abbrev number_by : Terminal → Terminal → ℕ
number_by t.Const after = 0
number_by t.Attribute after = 1
number_by t.Inherit after = 1
number_by t.Constructor after = 3
number_by t.Iterable after = 5
number_by t.Async after = 6
number_by t.AsyncIterable after = 6
number_by t.Maplike after = 7
number_by t.Setlike after = 8
number_by t.Readonly after = after_readonly after
number_by t.Static after = after_static after
number_by t.Stringifier after = after_stringifier after
number_by _ after = 2

-- the words that begin members which are no operations
abbrev other_words : List Terminal
other_words = t.Const ∷ t.Attribute ∷ t.Inherit ∷ t.Constructor ∷ t.Iterable ∷ t.Async ∷ t.AsyncIterable ∷ t.Maplike ∷ t.Setlike ∷ t.Readonly ∷ t.Static ∷ t.Stringifier ∷ []

operation_number : (first after : Terminal) → is_among other_words first ≡ false → number_by first after ≡ 2
operation_number t.Const after h = cc
operation_number t.Attribute after h = cc
operation_number t.Inherit after h = cc
operation_number t.Constructor after h = cc
operation_number t.Iterable after h = cc
operation_number t.Async after h = cc
operation_number t.AsyncIterable after h = cc
operation_number t.Maplike after h = cc
operation_number t.Setlike after h = cc
operation_number t.Readonly after h = cc
operation_number t.Static after h = cc
operation_number t.Stringifier after h = cc
operation_number _ after h = refl

static_number : (after : Terminal) → is_among (t.Attribute ∷ t.Readonly ∷ []) after ≡ false → after_static after ≡ 2
static_number t.Attribute h = cc
static_number t.Readonly h = cc
static_number _ h = refl

attribute_ahead : (k : AttributeKind) (readonly : Bool) (x : List Sign) (w m : List Lexeme) → UnparsesTo (attribute_word k ⧺ word_if readonly t.Readonly ⧺ word t.Attribute ⧺ x) w m → number_at number_by w ≡ 1
attribute_ahead attribute_kind.Regular true x w m s = by_two number_by t.Readonly (word t.Attribute ⧺ x) w m refl s
attribute_ahead attribute_kind.Regular false x w m s = by_first number_by (word t.Attribute ⧺ x) w m refl s
attribute_ahead attribute_kind.Static true x w m s = by_two number_by t.Static (word t.Readonly ⧺ word t.Attribute ⧺ x) w m refl s
attribute_ahead attribute_kind.Static false x w m s = by_two number_by t.Static (word t.Attribute ⧺ x) w m refl s
attribute_ahead (attribute_kind.Inherited p) readonly x w m s = by_first number_by (attribute_word (attribute_kind.Inherited p) ⧺ word_if readonly t.Readonly ⧺ word t.Attribute ⧺ x) w m refl s
attribute_ahead (attribute_kind.Stringifier p) true x w m s = by_two number_by t.Stringifier (word t.Readonly ⧺ word t.Attribute ⧺ x) w m refl (without_place (word t.Stringifier ⧺ word t.Readonly ⧺ word t.Attribute ⧺ x) m s)
attribute_ahead (attribute_kind.Stringifier p) false x w m s = by_two number_by t.Stringifier (word t.Attribute ⧺ x) w m refl (without_place (word t.Stringifier ⧺ word t.Attribute ⧺ x) m s)

operation_ahead : (k : OperationKind) (ty : TypeTree) (x : List Sign) (w m : List Lexeme) → UnparsesTo (operation_word k ⧺ outer_signs ty ⧺ x) w m → number_at number_by w ≡ 2
operation_ahead operation_kind.Regular ty x w m s =
    let known : Keeps (NoneAhead other_words) Anywhere (outer_signs ty ⧺ x) = first_keeps x (type_keeps ty other_words refl) in
    operation_number (terminal_ahead w) (terminal_ahead (drop 1 w)) (known.keeps w m s tt).none
operation_ahead operation_kind.Static ty x w m s =
    let known : Keeps (NoneAhead (t.Attribute ∷ t.Readonly ∷ [])) Anywhere (outer_signs ty ⧺ x) = first_keeps x (type_keeps ty (t.Attribute ∷ t.Readonly ∷ []) refl) in
    by_first number_by (word t.Static ⧺ outer_signs ty ⧺ x) w m refl s ∙ static_number (terminal_ahead (drop 1 w)) (known.keeps (drop 1 w) m (after_word (outer_signs ty ⧺ x) m s) tt).none
operation_ahead (operation_kind.Special Getter p) ty x w m s = by_first number_by (operation_word (operation_kind.Special Getter p) ⧺ outer_signs ty ⧺ x) w m refl s
operation_ahead (operation_kind.Special Setter p) ty x w m s = by_first number_by (operation_word (operation_kind.Special Setter p) ⧺ outer_signs ty ⧺ x) w m refl s
operation_ahead (operation_kind.Special Deleter p) ty x w m s = by_first number_by (operation_word (operation_kind.Special Deleter p) ⧺ outer_signs ty ⧺ x) w m refl s

async_ahead : (word : AsyncWord) (x : List Sign) (w m : List Lexeme) → UnparsesTo (async_words word ⧺ x) w m → number_at number_by w ≡ 6
async_ahead TwoWords x w m s = by_first number_by (async_words TwoWords ⧺ x) w m refl s
async_ahead OneWord x w m s = by_first number_by (async_words OneWord ⧺ x) w m refl s

maplike_ahead : (readonly : Bool) (x : List Sign) (w m : List Lexeme) → head x ≡ t.Maplike → UnparsesTo (word_if readonly t.Readonly ⧺ x) w m → number_at number_by w ≡ 7
maplike_ahead true x w m e s = by_two number_by t.Readonly x w m (ap is_other e) s ∙ ap after_readonly e
maplike_ahead false x w m e s = by_first number_by x w m (ap is_other e) s ∙ ap (λ word. number_by word (terminal_ahead (drop 1 w))) e

setlike_ahead : (readonly : Bool) (x : List Sign) (w m : List Lexeme) → head x ≡ t.Setlike → UnparsesTo (word_if readonly t.Readonly ⧺ x) w m → number_at number_by w ≡ 8
setlike_ahead true x w m e s = by_two number_by t.Readonly x w m (ap is_other e) s ∙ ap after_readonly e
setlike_ahead false x w m e s = by_first number_by x w m (ap is_other e) s ∙ ap (λ word. number_by word (terminal_ahead (drop 1 w))) e

kind_ahead : (k : MemberKind) (w m : List Lexeme) → UnparsesTo (member_kind k) w m → number_at number_by w ≡ number_of k
kind_ahead (kind.Constant c) w m s = by_first number_by (constant c.value) w m refl s
kind_ahead (kind.Attribute a) w m s = attribute_ahead a.kind a.readonly _ w m s
kind_ahead (kind.Operation o) w m s = operation_ahead o.kind (tree_of_type o.result) _ w m s
kind_ahead (kind.Constructor c) w m s = by_first number_by (constructor c) w m refl s
kind_ahead (kind.Stringifier c) w m s = by_two number_by t.Stringifier (word t.Semicolon) w m refl (without_place (word t.Stringifier ⧺ word t.Semicolon) m s)
kind_ahead (kind.Iterable i) w m s = by_first number_by (iterable i.value) w m refl s
kind_ahead (kind.AsyncIterable i) w m s = async_ahead i.value.word _ w m (without_place _ m s)
kind_ahead (kind.Maplike a) w m s = maplike_ahead a.value.readonly (maplike_rest a.value) w m refl s
kind_ahead (kind.Setlike a) w m s = setlike_ahead a.value.readonly (setlike_rest a.value) w m refl s

of_one_kind : (a b : MemberKind) → number_of a ≡ number_of b → Tells (SameMemberKind a b) Anywhere (member_kind a) (member_kind b)
of_one_kind (kind.Constant a) (kind.Constant b) e = constant_tells a.value b.value
of_one_kind (kind.Attribute a) (kind.Attribute b) e = attribute_tells a b
of_one_kind (kind.Operation a) (kind.Operation b) e = operation_tells a b
of_one_kind (kind.Constructor a) (kind.Constructor b) e = constructor_tells a b
of_one_kind (kind.Stringifier a) (kind.Stringifier b) e = stringifier_tells a b
of_one_kind (kind.Iterable a) (kind.Iterable b) e = iterable_tells a.value b.value
of_one_kind (kind.AsyncIterable a) (kind.AsyncIterable b) e = async_iterable_tells a.value b.value
of_one_kind (kind.Maplike a) (kind.Maplike b) e = maplike_tells a.value b.value
of_one_kind (kind.Setlike a) (kind.Setlike b) e = setlike_tells a.value b.value
of_one_kind a b e = other_number (number_of a) (number_of b) e refl

member_kind_tells : (a b : MemberKind) → Tells (SameMemberKind a b) Anywhere (member_kind a) (member_kind b)
member_kind_tells a b = of_one_number number_by member_kind number_of kind_ahead a b (of_one_kind a b)

-- a member begins with neither of these after its extended attributes
abbrev around_members : List Terminal
around_members = t.OpenBracket ∷ t.CloseBrace ∷ []

abbrev Inside : List Sign → Type 0
Inside x = Keeps (NoneAhead around_members) Anywhere x

attribute_inside : (k : AttributeKind) (readonly : Bool) (x : List Sign) → Inside (attribute_word k ⧺ word_if readonly t.Readonly ⧺ word t.Attribute ⧺ x)
attribute_inside attribute_kind.Regular readonly x = word_if_keeps t.Readonly readonly (word t.Attribute ⧺ x) around_members refl (begins_else (word t.Attribute ⧺ x) around_members refl)
attribute_inside attribute_kind.Static readonly x = begins_else (word t.Static ⧺ word_if readonly t.Readonly ⧺ word t.Attribute ⧺ x) around_members refl
attribute_inside k readonly x = begins_else (attribute_word k ⧺ word_if readonly t.Readonly ⧺ word t.Attribute ⧺ x) around_members refl

operation_inside : (k : OperationKind) (ty : TypeTree) (x : List Sign) → Inside (operation_word k ⧺ outer_signs ty ⧺ x)
operation_inside operation_kind.Regular ty x = first_keeps x (type_keeps ty around_members refl)
operation_inside (operation_kind.Special Getter p) ty x = begins_else (operation_word (operation_kind.Special Getter p) ⧺ outer_signs ty ⧺ x) around_members refl
operation_inside k ty x = begins_else (operation_word k ⧺ outer_signs ty ⧺ x) around_members refl

async_inside : (word : AsyncWord) (x : List Sign) → Inside (async_words word ⧺ x)
async_inside TwoWords x = begins_else (async_words TwoWords ⧺ x) around_members refl
async_inside OneWord x = begins_else (async_words OneWord ⧺ x) around_members refl

kind_inside : (k : MemberKind) → Inside (member_kind k)
kind_inside (kind.Constant c) = begins_else (constant c.value) around_members refl
kind_inside (kind.Attribute a) = attribute_inside a.kind a.readonly _
kind_inside (kind.Operation o) = operation_inside o.kind (tree_of_type o.result) _
kind_inside (kind.Constructor c) = begins_else (constructor c) around_members refl
kind_inside (kind.Stringifier s) = begins_else (stringifier s) around_members refl
kind_inside (kind.Iterable i) = begins_else (iterable i.value) around_members refl
kind_inside (kind.AsyncIterable i) = place_keeps (async_inside i.value.word _)
kind_inside (kind.Maplike a) = word_if_keeps t.Readonly a.value.readonly (maplike_rest a.value) around_members refl (begins_else (maplike_rest a.value) around_members refl)
kind_inside (kind.Setlike a) = word_if_keeps t.Readonly a.value.readonly (setlike_rest a.value) around_members refl (begins_else (setlike_rest a.value) around_members refl)

member_tells : (a b : Member) → Tells (SameMember a b) Anywhere (member a) (member b)
member_tells a b =
    told (and_tells (extended_attributes_tell a.attributes b.attributes) (member_kind_tells a.kind b.kind) (keeps_fewer (t.OpenBracket ∷ []) around_members refl (kind_inside a.kind)) (keeps_fewer (t.OpenBracket ∷ []) around_members refl (kind_inside b.kind)))
    (λ p. record { attributes = p.0; kind = p.1 })

between_braces : ItemsTell Anywhere (IsAhead t.CloseBrace) member SameMember
between_braces = record {
  last = λ w is. tt;
  next = λ x. keeps_anywhere;
  begins = λ x. not_before (after_attributes x.attributes (member_kind x.kind) (t.CloseBrace ∷ []) refl (keeps_fewer (t.CloseBrace ∷ []) around_members refl (kind_inside x.kind)));
  tells = member_tells;
}

pub members_tell : (xs ys : List Member) → Tells (SameMembers xs ys) (IsAhead t.CloseBrace) (all_signs member xs) (all_signs member ys)
members_tell = items_tell between_braces
