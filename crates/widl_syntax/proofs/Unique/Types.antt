-- Types have one spelling each.
use Rattle.std.proofs.Common.{◌≡◌, ◌≤◌, ℕ, suc, leb-true, Bool, true, false, if◌then◌else◌, Option, Some, None, List, [], ◌∷◌, refl, sym, ◌∙◌, ap, subst, eqb-true, inl, inr}
use Rattle.std.specs.Prelude.{not, ◌||◌, ◌&&◌, nat_eq, nat_le}
use Rattle.widl_text.specs.declared.place.Place.{Place}
use Rattle.widl_idl.specs.declared.int_kind.IntKind.{IntKind}
use Rattle.widl_idl.specs.declared.int_kind.IntKind.TheVariants as int
use Rattle.widl_idl.specs.declared.text_kind.TextKind.{TextKind}
use Rattle.widl_idl.specs.declared.text_kind.TextKind.TheVariants as text
use Rattle.widl_idl.specs.declared.tree.types.AnnotatedType.{AnnotatedType}
use Rattle.widl_idl.specs.declared.tree.types.BufferKind.{BufferKind}
use Rattle.widl_idl.specs.declared.tree.types.BufferKind.TheVariants as buffer
use Rattle.widl_idl.specs.declared.tree.types.Container.{Container}
use Rattle.widl_idl.specs.declared.tree.types.Container.TheVariants as container
use Rattle.widl_idl.specs.declared.tree.types.FloatKind.{FloatKind}
use Rattle.widl_idl.specs.declared.tree.types.FloatKind.TheVariants as float
use Rattle.widl_idl.specs.declared.tree.names.Name.{Name}
use Rattle.widl_idl.specs.TypeTrees.{FormTree, TypeTree, AnnotatedTree, MemberTrees, AnyForm, UndefinedForm, BooleanForm, ObjectForm, SymbolForm, BigIntForm, IntegerForm, FloatForm, TextForm, BufferForm, NamedForm, ContainerForm, RecordForm, PromiseForm, UnionForm, type_tree, annotated_tree, no_members, more_members, tree_of_annotated}
use Rattle.widl_lex.specs.Tokens.{Lexeme}
use Rattle.widl_predictive.proofs.Booleans.{and_cases, or_cases}
use Rattle.widl_grammar.specs.declared.terminal.Terminal.{Terminal}
use Rattle.widl_grammar.specs.declared.terminal.Terminal.TheVariants as t
use Rattle.widl_grammar.specs.Terminals.{all_terminals}
use Rattle.widl_syntax.specs.Signs.{UnparsesTo, Nowhere, word, ◌⧺◌}
use Rattle.widl_syntax.specs.UnparsedNames.{extended_attributes}
use Rattle.widl_syntax.specs.UnparsedTypes.{integer_words, float_words, string_terminal, buffer_terminal, container_terminal, question_mark, form_signs, type_signs, annotated_signs, member_signs, more_member_signs, within_levels, outer_signs, outer_annotated, bare_signs, second_type}
use Rattle.widl_syntax.specs.Nesting.{type_levels}
use Rattle.widl_idl.specs.PlainTypes.{plain_of}
use Rattle.widl_syntax.proofs.Unique.Same.{SameOption, SameForm, SameTypeTree, SameAnnotatedTree, SameMembersTree, SameAnnotatedType}
use Rattle.widl_syntax.specs.Reading.{terminal_ahead}
use Rattle.widl_syntax.proofs.Reading.{is_among, is_other, pass_all, passes}
use Rattle.widl_syntax.proofs.Unique.Ahead.{split, Keeps, NoneAhead, IsAhead, Anywhere, head, head_ahead, not_true, begins_else, first_keeps, place_keeps, ahead_none, fewer}
use Rattle.widl_syntax.proofs.Unique.Tells.{Tells, told, where_ends, under, nothing_told, and_tells, place_then, terminal_then, word_then, word_told, clashes, word_after, up_to}
use Rattle.widl_syntax.proofs.Unique.Items.{not_without, not_before, begins_another, first_excludes, none_some, some_none, option_tells}
use Rattle.widl_syntax.proofs.Unique.Numbers.{number_at, of_one_number, other_number}
use Rattle.widl_syntax.proofs.Unique.Names.{identifier_tells, extended_attributes_tell}

-- integer types, where no `long` follows
integer_tells : (a b : IntKind) → Tells (a ≡ b) (NoneAhead (t.Long ∷ [])) (integer_words a) (integer_words b)
integer_tells int.Byte int.Byte = told (word_told t.Byte) (λ u. refl)
integer_tells int.Octet int.Octet = told (word_told t.Octet) (λ u. refl)
integer_tells int.Short int.Short = told (word_told t.Short) (λ u. refl)
integer_tells int.UShort int.UShort = told (word_then t.Unsigned (word_told t.Short)) (λ u. refl)
integer_tells int.Long int.Long = told (word_told t.Long) (λ u. refl)
integer_tells int.ULong int.ULong = told (word_then t.Unsigned (word_told t.Long)) (λ u. refl)
integer_tells int.LongLong int.LongLong = told (word_then t.Long (word_told t.Long)) (λ u. refl)
integer_tells int.ULongLong int.ULongLong = told (word_then t.Unsigned (word_then t.Long (word_told t.Long))) (λ u. refl)
integer_tells int.Long int.LongLong = word_then t.Long (none_some (not_without t.Long (word t.Long) refl refl))
integer_tells int.LongLong int.Long = word_then t.Long (some_none (not_without t.Long (word t.Long) refl refl))
integer_tells int.ULong int.ULongLong = word_then t.Unsigned (word_then t.Long (none_some (not_without t.Long (word t.Long) refl refl)))
integer_tells int.ULongLong int.ULong = word_then t.Unsigned (word_then t.Long (some_none (not_without t.Long (word t.Long) refl refl)))
integer_tells int.UShort int.ULong = word_then t.Unsigned (clashes (word t.Short) (word t.Long) refl)
integer_tells int.ULong int.UShort = word_then t.Unsigned (clashes (word t.Long) (word t.Short) refl)
integer_tells int.UShort int.ULongLong = word_then t.Unsigned (clashes (word t.Short) (word t.Long ⧺ word t.Long) refl)
integer_tells int.ULongLong int.UShort = word_then t.Unsigned (clashes (word t.Long ⧺ word t.Long) (word t.Short) refl)
integer_tells a b = clashes (integer_words a) (integer_words b) refl

float_tells : (a b : FloatKind) → Tells (a ≡ b) Anywhere (float_words a) (float_words b)
float_tells float.Float float.Float = told (word_told t.Float) (λ u. refl)
float_tells float.UnrestrictedFloat float.UnrestrictedFloat = told (word_then t.Unrestricted (word_told t.Float)) (λ u. refl)
float_tells float.Double float.Double = told (word_told t.Double) (λ u. refl)
float_tells float.UnrestrictedDouble float.UnrestrictedDouble = told (word_then t.Unrestricted (word_told t.Double)) (λ u. refl)
float_tells float.UnrestrictedFloat float.UnrestrictedDouble = word_then t.Unrestricted (clashes (word t.Float) (word t.Double) refl)
float_tells float.UnrestrictedDouble float.UnrestrictedFloat = word_then t.Unrestricted (clashes (word t.Double) (word t.Float) refl)
float_tells a b = clashes (float_words a) (float_words b) refl

-- kinds of types by their one word
string_known : (a b : TextKind) → string_terminal a ≡ string_terminal b → a ≡ b
string_known text.Dom text.Dom e = refl
string_known text.Usv text.Usv e = refl
string_known text.Byte text.Byte e = refl
string_known a b e = cc

buffer_known : (a b : BufferKind) → buffer_terminal a ≡ buffer_terminal b → a ≡ b
buffer_known buffer.ArrayBuffer buffer.ArrayBuffer e = refl
buffer_known buffer.SharedArrayBuffer buffer.SharedArrayBuffer e = refl
buffer_known buffer.DataView buffer.DataView e = refl
buffer_known buffer.Int8Array buffer.Int8Array e = refl
buffer_known buffer.Int16Array buffer.Int16Array e = refl
buffer_known buffer.Int32Array buffer.Int32Array e = refl
buffer_known buffer.Uint8Array buffer.Uint8Array e = refl
buffer_known buffer.Uint16Array buffer.Uint16Array e = refl
buffer_known buffer.Uint32Array buffer.Uint32Array e = refl
buffer_known buffer.Uint8ClampedArray buffer.Uint8ClampedArray e = refl
buffer_known buffer.BigInt64Array buffer.BigInt64Array e = refl
buffer_known buffer.BigUint64Array buffer.BigUint64Array e = refl
buffer_known buffer.Float16Array buffer.Float16Array e = refl
buffer_known buffer.Float32Array buffer.Float32Array e = refl
buffer_known buffer.Float64Array buffer.Float64Array e = refl
buffer_known a b e = cc

container_known : (a b : Container) → container_terminal a ≡ container_terminal b → a ≡ b
container_known container.Sequence container.Sequence e = refl
container_known container.AsyncSequence container.AsyncSequence e = refl
container_known container.FrozenArray container.FrozenArray e = refl
container_known container.ObservableArray container.ObservableArray e = refl
container_known a b e = cc

-- the place of a `?`, where no other follows
question_tells : (a b : Option Place) → Tells (a ≡ b) (NoneAhead (t.Question ∷ [])) (question_mark a) (question_mark b)
question_tells None None = told nothing_told (λ u. refl)
question_tells None (Some q) = none_some (not_without t.Question (question_mark (Some q)) refl refl)
question_tells (Some p) None = some_none (not_without t.Question (question_mark (Some p)) refl refl)
question_tells (Some p) (Some q) = told (place_then p q (word_told t.Question)) (λ e. ap Some e.0)

-- what may not follow a type, as it would go on with it
abbrev pub TypeEnd : List Lexeme → Type 0
TypeEnd = NoneAhead (t.Question ∷ t.Long ∷ [])

question_keeps : (a : Option Place) → Keeps (NoneAhead (t.Long ∷ [])) TypeEnd (question_mark a)
question_keeps None = record { keeps = λ w m s end. fewer (t.Long ∷ []) (t.Question ∷ t.Long ∷ []) refl w (subst TypeEnd (sym s) end) }
question_keeps (Some p) = begins_else (question_mark (Some p)) (t.Long ∷ []) refl

-- the words that types begin with, by their forms
abbrev form_words : List (List Terminal)
form_words = (t.Any ∷ []) ∷ (t.Undefined ∷ []) ∷ (t.Boolean ∷ []) ∷ (t.Object ∷ []) ∷ (t.Symbol ∷ []) ∷ (t.Bigint ∷ []) ∷ (t.Byte ∷ t.Octet ∷ t.Short ∷ t.Unsigned ∷ t.Long ∷ []) ∷ (t.Float ∷ t.Unrestricted ∷ t.Double ∷ []) ∷ (t.DomString ∷ t.UsvString ∷ t.ByteString ∷ []) ∷ (t.ArrayBuffer ∷ t.SharedArrayBuffer ∷ t.DataView ∷ t.Int8Array ∷ t.Int16Array ∷ t.Int32Array ∷ t.Uint8Array ∷ t.Uint16Array ∷ t.Uint32Array ∷ t.Uint8ClampedArray ∷ t.BigInt64Array ∷ t.BigUint64Array ∷ t.Float16Array ∷ t.Float32Array ∷ t.Float64Array ∷ []) ∷ (t.Identifier ∷ []) ∷ (t.Sequence ∷ t.AsyncSequence ∷ t.FrozenArray ∷ t.ObservableArray ∷ []) ∷ (t.Record ∷ []) ∷ (t.Promise ∷ []) ∷ (t.OpenParen ∷ []) ∷ []

-- the number of the first list that has the terminal
abbrev number_in : List (List Terminal) → Terminal → ℕ
number_in [] terminal = 0
number_in (ts ∷ more) terminal = if is_among ts terminal then 0 else suc (number_in more terminal)

abbrev form_number : FormTree → ℕ
form_number AnyForm = 0
form_number UndefinedForm = 1
form_number BooleanForm = 2
form_number ObjectForm = 3
form_number SymbolForm = 4
form_number BigIntForm = 5
form_number (IntegerForm kind) = 6
form_number (FloatForm kind) = 7
form_number (TextForm kind) = 8
form_number (BufferForm kind) = 9
form_number (NamedForm name) = 10
form_number (ContainerForm kind element) = 11
form_number (RecordForm key value) = 12
form_number (PromiseForm value) = 13
form_number (UnionForm types) = 14

abbrev is_word_of_form : ℕ → Terminal → Bool
is_word_of_form number terminal = not (is_other terminal) && nat_eq (number_in form_words terminal) number

integer_begins : (kind : IntKind) → is_word_of_form 6 (head (integer_words kind)) ≡ true
integer_begins int.Byte = refl
integer_begins _ = refl

float_begins : (kind : FloatKind) → is_word_of_form 7 (head (float_words kind)) ≡ true
float_begins float.Float = refl
float_begins _ = refl

string_begins : (kind : TextKind) → is_word_of_form 8 (string_terminal kind) ≡ true
string_begins text.Dom = refl
string_begins _ = refl

buffer_begins : (kind : BufferKind) → is_word_of_form 9 (buffer_terminal kind) ≡ true
buffer_begins buffer.ArrayBuffer = refl
buffer_begins _ = refl

container_begins : (kind : Container) → is_word_of_form 11 (container_terminal kind) ≡ true
container_begins container.Sequence = refl
container_begins _ = refl

form_begins : (form : FormTree) → is_word_of_form (form_number form) (head (form_signs form)) ≡ true
form_begins (IntegerForm kind) = integer_begins kind
form_begins (FloatForm kind) = float_begins kind
form_begins (TextForm kind) = string_begins kind
form_begins (BufferForm kind) = buffer_begins kind
form_begins (ContainerForm kind element) = container_begins kind
form_begins _ = refl

-- the token ahead tells the form
abbrev form_by : Terminal → Terminal → ℕ
form_by first after = number_in form_words first

form_ahead : (form : FormTree) (w m : List Lexeme) → UnparsesTo (form_signs form) w m → number_at form_by w ≡ form_number form
form_ahead form w m s =
    let both = and_cases (not (is_other (head (form_signs form)))) _ (form_begins form) in
    ap (number_in form_words) (head_ahead (form_signs form) w m (not_true (is_other (head (form_signs form))) both.0) s) ∙ eqb-true (number_in form_words (head (form_signs form))) (form_number form) both.1

-- none of the terminals begins a type without extended attributes
abbrev pub begin_no_type : List Terminal → Bool
begin_no_type ts = pass_all (λ terminal. not (is_among ts terminal) || nat_eq (number_in form_words terminal) 15) all_terminals

each_has_number : (form : FormTree) → nat_eq (form_number form) 15 ≡ false
each_has_number AnyForm = refl
each_has_number _ = refl

form_keeps : {F : List Lexeme → Type 0} (form : FormTree) (ts : List Terminal) → begin_no_type ts ≡ true → Keeps (NoneAhead ts) F (form_signs form)
form_keeps {F} form ts h = record { keeps = λ w m s fm. record { none = go w m s } }
  where
    go : (w m : List Lexeme) → UnparsesTo (form_signs form) w m → is_among ts (terminal_ahead w) ≡ false
    go w m s = elim (or_cases (not (is_among ts (terminal_ahead w))) _ (passes (λ terminal. not (is_among ts terminal) || nat_eq (number_in form_words terminal) 15) h (terminal_ahead w))) [
      | inl none ↦ not_true (is_among ts (terminal_ahead w)) none
      | inr none ↦ let bad : true ≡ false = sym none ∙ ap (λ n. nat_eq n 15) (form_ahead form w m s) ∙ each_has_number form in cc
    ]

pub inner_type_keeps : {F : List Lexeme → Type 0} (ty : TypeTree) (ts : List Terminal) → begin_no_type ts ≡ true → Keeps (NoneAhead ts) F (type_signs ty)
inner_type_keeps (type_tree place form question) ts h = place_keeps (first_keeps _ (form_keeps form ts h))

pub inner_annotated_keeps : {F : List Lexeme → Type 0} (ty : AnnotatedTree) (ts : List Terminal) → begin_no_type ts ≡ true → not (is_among ts t.OpenBracket) ≡ true → Keeps (NoneAhead ts) F (annotated_signs ty)
inner_annotated_keeps (annotated_tree place [] inner) ts h no_bracket = place_keeps (inner_type_keeps inner ts h)
inner_annotated_keeps (annotated_tree place (a ∷ more) inner) ts h no_bracket = place_keeps (begins_else (extended_attributes (a ∷ more) ⧺ type_signs inner) ts no_bracket)

more_members_keep : (members : MemberTrees) → Keeps TypeEnd (IsAhead t.CloseParen) (more_member_signs members)
more_members_keep no_members = record { keeps = λ w m s is. subst TypeEnd (sym s) (ahead_none t.CloseParen (t.Question ∷ t.Long ∷ []) refl m is) }
more_members_keep (more_members member more) = begins_else (more_member_signs (more_members member more)) (t.Question ∷ t.Long ∷ []) refl

-- what the signs of each part of a type tell against those of another
abbrev FormTells : FormTree → FormTree → Type 0
FormTells a b = Tells (SameForm a b) (NoneAhead (t.Long ∷ [])) (form_signs a) (form_signs b)

abbrev TypeTells : TypeTree → Type 0
TypeTells a = (b : TypeTree) → Tells (SameTypeTree a b) TypeEnd (type_signs a) (type_signs b)

abbrev AnnotatedTells : AnnotatedTree → Type 0
AnnotatedTells a = (b : AnnotatedTree) → Tells (SameAnnotatedTree a b) TypeEnd (annotated_signs a) (annotated_signs b)

abbrev MembersTell : MemberTrees → Type 0
MembersTell a = (b : MemberTrees) → Tells (SameMembersTree a b) (IsAhead t.CloseParen) (member_signs a) (member_signs b)

-- forms of one number, by that of the first
any_form : (b : FormTree) → 0 ≡ form_number b → FormTells AnyForm b
any_form AnyForm e = word_told t.Any
any_form b e = other_number 0 (form_number b) e refl

undefined_form : (b : FormTree) → 1 ≡ form_number b → FormTells UndefinedForm b
undefined_form UndefinedForm e = word_told t.Undefined
undefined_form b e = other_number 1 (form_number b) e refl

boolean_form : (b : FormTree) → 2 ≡ form_number b → FormTells BooleanForm b
boolean_form BooleanForm e = word_told t.Boolean
boolean_form b e = other_number 2 (form_number b) e refl

object_form : (b : FormTree) → 3 ≡ form_number b → FormTells ObjectForm b
object_form ObjectForm e = word_told t.Object
object_form b e = other_number 3 (form_number b) e refl

symbol_form : (b : FormTree) → 4 ≡ form_number b → FormTells SymbolForm b
symbol_form SymbolForm e = word_told t.Symbol
symbol_form b e = other_number 4 (form_number b) e refl

bigint_form : (b : FormTree) → 5 ≡ form_number b → FormTells BigIntForm b
bigint_form BigIntForm e = word_told t.Bigint
bigint_form b e = other_number 5 (form_number b) e refl

integer_form : (a : IntKind) (b : FormTree) → 6 ≡ form_number b → FormTells (IntegerForm a) b
integer_form a (IntegerForm b) e = integer_tells a b
integer_form a b e = other_number 6 (form_number b) e refl

float_form : (a : FloatKind) (b : FormTree) → 7 ≡ form_number b → FormTells (FloatForm a) b
float_form a (FloatForm b) e = under (float_tells a b)
float_form a b e = other_number 7 (form_number b) e refl

text_form : (a : TextKind) (b : FormTree) → 8 ≡ form_number b → FormTells (TextForm a) b
text_form a (TextForm b) e = told (terminal_then (string_terminal a) (string_terminal b) nothing_told) (λ p. string_known a b p.0)
text_form a b e = other_number 8 (form_number b) e refl

buffer_form : (a : BufferKind) (b : FormTree) → 9 ≡ form_number b → FormTells (BufferForm a) b
buffer_form a (BufferForm b) e = told (terminal_then (buffer_terminal a) (buffer_terminal b) nothing_told) (λ p. buffer_known a b p.0)
buffer_form a b e = other_number 9 (form_number b) e refl

named_form : (a : Name) (b : FormTree) → 10 ≡ form_number b → FormTells (NamedForm a) b
named_form a (NamedForm b) e = under (identifier_tells a b)
named_form a b e = other_number 10 (form_number b) e refl

container_form : (a : Container) (x : AnnotatedTree) → AnnotatedTells x → (b : FormTree) → 11 ≡ form_number b → FormTells (ContainerForm a x) b
container_form a x inner (ContainerForm b y) e =
    under (told (terminal_then (container_terminal a) (container_terminal b) (word_then t.Less (word_after t.Greater refl (inner y)))) (λ p. (container_known a b p.0, p.1)))
container_form a x inner b e = other_number 11 (form_number b) e refl

record_form : (a : TextKind) (x : AnnotatedTree) → AnnotatedTells x → (b : FormTree) → 12 ≡ form_number b → FormTells (RecordForm a x) b
record_form a x inner (RecordForm b y) e =
    under (word_then t.Record (word_then t.Less (told (terminal_then (string_terminal a) (string_terminal b) (word_then t.Comma (word_after t.Greater refl (inner y)))) (λ p. (string_known a b p.0, p.1)))))
record_form a x inner b e = other_number 12 (form_number b) e refl

promise_form : (x : TypeTree) → TypeTells x → (b : FormTree) → 13 ≡ form_number b → FormTells (PromiseForm x) b
promise_form x inner (PromiseForm y) e = under (word_then t.Promise (word_then t.Less (word_after t.Greater refl (inner y))))
promise_form x inner b e = other_number 13 (form_number b) e refl

union_form : (x : MemberTrees) → MembersTell x → (b : FormTree) → 14 ≡ form_number b → FormTells (UnionForm x) b
union_form x inner (UnionForm y) e = under (word_then t.OpenParen (told (up_to t.CloseParen refl (inner y) nothing_told) (λ p. p.0)))
union_form x inner b e = other_number 14 (form_number b) e refl

mutual
  form_tells : (a b : FormTree) → form_number a ≡ form_number b → FormTells a b
  form_tells AnyForm b e = any_form b e
  form_tells UndefinedForm b e = undefined_form b e
  form_tells BooleanForm b e = boolean_form b e
  form_tells ObjectForm b e = object_form b e
  form_tells SymbolForm b e = symbol_form b e
  form_tells BigIntForm b e = bigint_form b e
  form_tells (IntegerForm a) b e = integer_form a b e
  form_tells (FloatForm a) b e = float_form a b e
  form_tells (TextForm a) b e = text_form a b e
  form_tells (BufferForm a) b e = buffer_form a b e
  form_tells (NamedForm a) b e = named_form a b e
  form_tells (ContainerForm a x) b e = container_form a x (λ y. inner_annotated_tells x y) b e
  form_tells (RecordForm a x) b e = record_form a x (λ y. inner_annotated_tells x y) b e
  form_tells (PromiseForm x) b e = promise_form x (λ y. inner_type_tells x y) b e
  form_tells (UnionForm x) b e = union_form x (λ y. members_tell x y) b e

  pub inner_type_tells : (a b : TypeTree) → Tells (SameTypeTree a b) TypeEnd (type_signs a) (type_signs b)
  inner_type_tells (type_tree p form q) (type_tree p2 form2 q2) =
      told (place_then p p2 (and_tells (of_one_number form_by form_signs form_number form_ahead form form2 (λ e. form_tells form form2 e)) (where_ends (fewer (t.Question ∷ []) (t.Question ∷ t.Long ∷ []) refl) (question_tells q q2)) (question_keeps q) (question_keeps q2))) (λ s. (s.0, s.1.0, s.1.1))

  pub inner_annotated_tells : (a b : AnnotatedTree) → Tells (SameAnnotatedTree a b) TypeEnd (annotated_signs a) (annotated_signs b)
  inner_annotated_tells (annotated_tree p xs inner) (annotated_tree p2 ys inner2) =
      told (place_then p p2 (and_tells (extended_attributes_tell xs ys) (inner_type_tells inner inner2) (inner_type_keeps inner (t.OpenBracket ∷ []) refl) (inner_type_keeps inner2 (t.OpenBracket ∷ []) refl))) (λ s. (s.0, s.1.0, s.1.1))

  members_tell : (a b : MemberTrees) → Tells (SameMembersTree a b) (IsAhead t.CloseParen) (member_signs a) (member_signs b)
  members_tell no_members no_members = nothing_told
  members_tell no_members (more_members y ys) = none_some (first_excludes _ (not_before (inner_annotated_keeps y (t.CloseParen ∷ []) refl refl)))
  members_tell (more_members x xs) no_members = some_none (first_excludes _ (not_before (inner_annotated_keeps x (t.CloseParen ∷ []) refl refl)))
  members_tell (more_members x xs) (more_members y ys) = and_tells (inner_annotated_tells x y) (more_members_tell xs ys) (more_members_keep xs) (more_members_keep ys)

  more_members_tell : (a b : MemberTrees) → Tells (SameMembersTree a b) (IsAhead t.CloseParen) (more_member_signs a) (more_member_signs b)
  more_members_tell no_members no_members = nothing_told
  more_members_tell no_members (more_members y ys) = none_some (begins_another t.CloseParen (more_member_signs (more_members y ys)) refl)
  more_members_tell (more_members x xs) no_members = some_none (begins_another t.CloseParen (more_member_signs (more_members x xs)) refl)
  more_members_tell (more_members x xs) (more_members y ys) = word_then t.Or (and_tells (inner_annotated_tells x y) (more_members_tell xs ys) (more_members_keep xs) (more_members_keep ys))

-- types inside no other, whose signs say that they have at most 16 levels
pub has_levels : (ty : TypeTree) (w m : List Lexeme) → UnparsesTo (outer_signs ty) w m → UnparsesTo (type_signs ty) w m × (type_levels (plain_of ty) ≤ 16)
has_levels ty w m s =
    let a = split (type_signs ty) (within_levels ty) w m s in
    let k = go (nat_le (type_levels (plain_of ty)) 16) a.0 refl a.2 in
    (subst (UnparsesTo (type_signs ty) w) k.0 a.1, k.1)
  where
    go : (b : Bool) (v : List Lexeme) → nat_le (type_levels (plain_of ty)) 16 ≡ b → UnparsesTo (if b then [] else Nowhere ∷ []) v m → (v ≡ m) × (type_levels (plain_of ty) ≤ 16)
    go true v e h = (h, leb-true (type_levels (plain_of ty)) 16 e)
    go false v e h = absurd h.1

pub type_tells : (a b : TypeTree) → Tells (SameTypeTree a b) TypeEnd (outer_signs a) (outer_signs b)
type_tells a b = record { tells = λ w m n s r em en. (inner_type_tells a b).tells w m n (has_levels a w m s).0 (has_levels b w n r).0 em en }

pub type_keeps : {F : List Lexeme → Type 0} (ty : TypeTree) (ts : List Terminal) → begin_no_type ts ≡ true → Keeps (NoneAhead ts) F (outer_signs ty)
type_keeps ty ts h = first_keeps (within_levels ty) (inner_type_keeps ty ts h)

pub annotated_tells : (a b : AnnotatedTree) → Tells (SameAnnotatedTree a b) TypeEnd (outer_annotated a) (outer_annotated b)
annotated_tells (annotated_tree p xs inner) (annotated_tree p2 ys inner2) =
    told (place_then p p2 (and_tells (extended_attributes_tell xs ys) (type_tells inner inner2) (type_keeps inner (t.OpenBracket ∷ []) refl) (type_keeps inner2 (t.OpenBracket ∷ []) refl))) (λ s. (s.0, s.1.0, s.1.1))

-- types without extended attributes
pub bare_tells : (a b : AnnotatedTree) → Tells (SameAnnotatedTree a b) TypeEnd (bare_signs a) (bare_signs b)
bare_tells (annotated_tree p [] inner) (annotated_tree p2 [] inner2) = told (place_then p p2 (type_tells inner inner2)) (λ s. (s.0, tt, s.1))
bare_tells (annotated_tree p [] inner) (annotated_tree p2 (y ∷ ys) inner2) = record { tells = λ w m n s r em en. absurd r.1 }
bare_tells (annotated_tree p (x ∷ xs) inner) b = record { tells = λ w m n s r em en. absurd s.1 }

pub bare_keeps : {F : List Lexeme → Type 0} (ty : AnnotatedTree) (ts : List Terminal) → begin_no_type ts ≡ true → Keeps (NoneAhead ts) F (bare_signs ty)
bare_keeps (annotated_tree place [] inner) ts h = place_keeps (type_keeps inner ts h)
bare_keeps (annotated_tree place (a ∷ more) inner) ts h = record { keeps = λ w m s fm. absurd s.1 }

-- a second type, before the `>` after it
pub second_type_tells : (a b : Option AnnotatedType) → Tells (SameOption SameAnnotatedType a b) (IsAhead t.Greater) (second_type a) (second_type b)
second_type_tells a b =
    option_tells second_type refl (λ x. begins_another t.Greater (second_type (Some x)) refl)
    (λ x y. where_ends (ahead_none t.Greater (t.Question ∷ t.Long ∷ []) refl) (word_then t.Comma (annotated_tells (tree_of_annotated x) (tree_of_annotated y)))) a b

pub second_type_keeps : (a : Option AnnotatedType) → Keeps TypeEnd (IsAhead t.Greater) (second_type a)
second_type_keeps None = record { keeps = λ w m s is. subst TypeEnd (sym s) (ahead_none t.Greater (t.Question ∷ t.Long ∷ []) refl m is) }
second_type_keeps (Some x) = begins_else (second_type (Some x)) (t.Question ∷ t.Long ∷ []) refl
