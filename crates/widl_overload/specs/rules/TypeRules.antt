-- The rules of validity on types, each as one predicate over a type as it is written and what it means there.
-- Source: Web IDL, "Types", "Nullable types", "Union types", "Annotated types", "Constants" and "Attributes".
use Rattle.std.specs.Prelude.{◌≡◌, ℕ, ◌<◌, Bool, true, false, ◌||◌, not, List, [], ◌++◌, Contains, length, slice_get, zero, suc, Option, None, Some, if◌then◌else◌}
use Rattle.std.specs.List.{list_any}
use Rattle.widl_text.specs.declared.place.Place.{Place}
use Rattle.widl_idl.specs.declared.int_kind.Mode.{Mode}
use Rattle.widl_idl.specs.declared.int_kind.Mode.TheVariants as modes
use Rattle.widl_idl.specs.DefinitionTerms.{IfaceTerm}
use Rattle.widl_idl.specs.declared.violation.Violation.{Violation}
use Rattle.widl_idl.specs.Flattened.{flattened_member, flattened_members, includes_nullable_type, nullable_members}
use Rattle.widl_idl.specs.First.{Somewhere, is_before, violation_at}
use Rattle.widl_idl.specs.MergingRules.{IsAt}
use Rattle.widl_idl.specs.PlainTypes.{PlainAttribute, PlainForm, PlainType, PlainValue, PlainUndefined, PlainUnion, plain_type, BooleanValue, IntegerValue}
use Rattle.widl_idl.specs.PlainTrees.{ConstantMember, AttributeMember, PlainDefinition}
use Rattle.widl_idl.specs.Resolution.{Annotation, ClampTo, EnforceRange, LegacyNullToEmptyString, Note, Typedef, WrittenType, TypedefName, NullableOf}
use Rattle.widl_idl.specs.Terms.{TypeTerm, TypeTerms, AnyType, BooleanType, IntegerType, StringType, DictionaryType, SequenceType, RecordType, PromiseType, NullableType, UnionType, no_types}
use Rattle.widl_idl.specs.Nodes.{Node, MemberNode}
use Rattle.widl_idl.specs.StringTypes.{is_unit_string}
use Rattle.widl_text.specs.IntegerTokens.{integer_of}
use Rattle.widl_idl.specs.WrittenTypes.{annotation_of, meaning_alone, meaning_of_annotated, notes_of, typedefs, written_type}
use Rattle.widl_overload.specs.declared.type_role.TypeRole.{TypeRole}
use Rattle.widl_overload.specs.declared.type_role.TypeRole.TheVariants as role
use Rattle.widl_overload.specs.sets.Distinct.{distinguishable, has_dictionary, is_dictionary}
use Rattle.widl_overload.specs.rules.MemberRules.{AtPlace, is_promise, word_of_attribute}
use Rattle.widl_idl.specs.Ranges.{is_in_range}
use Rattle.widl_overload.specs.rules.TypeUses.{TypeUse, type_place}

-- a type without its `?`s
abbrev pub without_nullable : TypeTerm → TypeTerm
without_nullable (NullableType t) = without_nullable t
without_nullable t = t

-- the type of a constant may be boolean or an integer type
abbrev pub is_constant_type : TypeTerm → Bool
is_constant_type BooleanType = true
is_constant_type (IntegerType kind mode) = true
is_constant_type t = false

abbrev pub is_constant_role : TypeRole → Bool
is_constant_role role.Constant = true
is_constant_role other = false

-- rule 17: a constant's type is neither: at the type
abbrev pub IsOtherConstantType : TypeTerm → TypeUse → Violation → Type 0
IsOtherConstantType t u s = ((is_constant_role u.role ≡ true) × (is_constant_type t ≡ false)) × IsAt (type_place u.ty) s

-- whether a constant of the type may have the value
abbrev pub takes_value : TypeTerm → PlainValue → Bool
takes_value BooleanType (BooleanValue b) = true
takes_value (IntegerType kind mode) (IntegerValue text) = is_in_range kind (integer_of text)
takes_value t value = false

-- rule 18: a constant's value is not of its type, or not in its range: at the value
abbrev pub HasOtherValue : List PlainDefinition → Node → Violation → Type 0
HasOtherValue definitions (MemberNode (ConstantMember c)) s = (takes_value (meaning_alone definitions c.ty) c.value.value ≡ false) × IsAt c.value.at s
HasOtherValue definitions node s = ⊥

-- whether values of a type are copied when they are read: sequences, dictionaries and records
abbrev pub is_copied : TypeTerm → Bool
is_copied (SequenceType t) = true
is_copied (DictionaryType n) = true
is_copied (RecordType key t) = true
is_copied t = false

abbrev pub is_attribute_role : TypeRole → Bool
is_attribute_role role.Attribute = true
is_attribute_role other = false

-- rule 19: an attribute's type is such, or a union with one of them among its flattened members, with or without a `?`: at the type
abbrev pub IsCopiedAttribute : TypeTerm → TypeUse → Violation → Type 0
IsCopiedAttribute t u s = ((is_attribute_role u.role ≡ true) × (list_any is_copied (flattened_member t) ≡ true)) × IsAt (type_place u.ty) s

-- the types that may not stand before a `?`
abbrev pub is_never_nullable : TypeTerm → Bool
is_never_nullable AnyType = true
is_never_nullable (PromiseType t) = true
is_never_nullable (NullableType t) = true
is_never_nullable (UnionType ts) = includes_nullable_type (UnionType ts) || has_dictionary (UnionType ts)
is_never_nullable t = false

abbrev pub is_wrongly_nullable : TypeTerm → Bool
is_wrongly_nullable (NullableType t) = is_never_nullable t
is_wrongly_nullable t = false

-- where the `?` of a type stands
abbrev pub question_of : PlainType → Option Place
question_of (plain_type at form question) = question

abbrev pub has_question : PlainType → Bool
has_question (plain_type at form None) = false
has_question (plain_type at form (Some question)) = true

-- rule 21: such a type stands before a `?`: at the `?`
abbrev pub IsWronglyNullable : TypeTerm → TypeUse → Violation → Type 0
IsWronglyNullable t u s = (is_wrongly_nullable t ≡ true) × AtPlace (question_of u.ty) s

abbrev pub is_union_form : PlainForm → Bool
is_union_form (PlainUnion members) = true
is_union_form form = false

-- whether a type is written as a union, with or without a `?`
abbrev pub is_written_union : PlainType → Bool
is_written_union (plain_type at form question) = is_union_form form

-- the members of a union, with or without a `?`; none of another type
abbrev pub members_of_union : TypeTerm → TypeTerms
members_of_union (NullableType t) = members_of_union t
members_of_union (UnionType ts) = ts
members_of_union t = no_types

-- the fact holds of the members of a written union: at its `(`
abbrev pub OfUnion : (TypeTerms → Type 0) → TypeTerm → TypeUse → Violation → Type 0
OfUnion P t u s = ((is_written_union u.ty ≡ true) × P (members_of_union t)) × IsAt (type_place u.ty) s

-- rule 22: more than one of a union's members are nullable
abbrev pub HaveSeveralNullable : TypeTerms → Type 0
HaveSeveralNullable ts = 1 < nullable_members ts

-- rule 23: a union includes a nullable type, and has a dictionary among its flattened members
abbrev pub HaveNullableAndDictionary : TypeTerms → Type 0
HaveNullableAndDictionary ts = (nullable_members ts ≡ 1) × (list_any is_dictionary (flattened_members ts) ≡ true)

-- two of these types aren't distinguishable
pub record HaveIndistinguishablePair (ifaces : List IfaceTerm) (types : List TypeTerm) : Type 0 where
  pub first : ℕ
  pub second : ℕ
  pub follows : first < second
  pub one : TypeTerm
  pub other : TypeTerm
  pub one_is : slice_get types first ≡ Some one
  pub other_is : slice_get types second ≡ Some other
  pub indistinguishable : distinguishable ifaces one other ≡ false

-- rule 24: two flattened members of a union aren't distinguishable
abbrev pub HaveIndistinguishableMembers : List IfaceTerm → TypeTerms → Type 0
HaveIndistinguishableMembers ifaces ts = HaveIndistinguishablePair ifaces (flattened_members ts)

abbrev pub is_wrap : Mode → Bool
is_wrap modes.Wrap = true
is_wrap mode = false

-- whether a type, with or without a `?`, is annotated, also by a typedef
abbrev pub is_annotated : TypeTerm → Bool
is_annotated (IntegerType kind mode) = not (is_wrap mode)
is_annotated (StringType kind null_empty) = null_empty
is_annotated (NullableType t) = is_annotated t
is_annotated t = false

abbrev pub is_member_role : TypeRole → Bool
is_member_role role.UnionMember = true
is_member_role other = false

-- rule 25: a member type of a union is annotated: at its first token, which is the `[` of its extended attributes where it has any
abbrev pub IsAnnotatedMember : TypeTerm → TypeUse → Violation → Type 0
IsAnnotatedMember t u s = ((is_member_role u.role ≡ true) × (is_annotated t ≡ true)) × IsAt u.first s

abbrev pub is_nullable_dictionary : TypeTerm → Bool
is_nullable_dictionary (NullableType t) = is_dictionary t
is_nullable_dictionary t = false

abbrev pub is_argument_or_member_role : TypeRole → Bool
is_argument_or_member_role role.Argument = true
is_argument_or_member_role role.DictionaryMember = true
is_argument_or_member_role other = false

-- rule 27: the type of an argument or of a dictionary member is a nullable dictionary: at the type
abbrev pub IsNullableDictionary : TypeTerm → TypeUse → Violation → Type 0
IsNullableDictionary t u s = ((is_argument_or_member_role u.role ≡ true) × (is_nullable_dictionary t ≡ true)) × IsAt (type_place u.ty) s

abbrev pub is_integer : TypeTerm → Bool
is_integer (IntegerType kind mode) = true
is_integer t = false

-- whether an annotation applies to a type
abbrev pub applies_to : TypeTerm → Annotation → Bool
applies_to t ClampTo = is_integer t
applies_to t EnforceRange = is_integer t
applies_to t LegacyNullToEmptyString = is_unit_string t

abbrev pub is_misplaced : TypeTerm → Option Annotation → Bool
is_misplaced t None = false
is_misplaced t (Some annotation) = not (applies_to t annotation)

-- an extended attribute is an annotation that doesn't apply to the type after it, with or without a `?`: at its name
abbrev pub IsMisplaced : TypeTerm → PlainAttribute → Violation → Type 0
IsMisplaced t a s = (is_misplaced (without_nullable t) (annotation_of a.name.text) ≡ true) × IsAt a.name.at s

-- rule 28: an annotation does not apply to the type: at the annotation
abbrev pub HasMisplacedAnnotation : TypeTerm → TypeUse → Violation → Type 0
HasMisplacedAnnotation t u s = Somewhere (IsMisplaced t) u.attributes s

-- the annotations of a typedef and of those that its type leads to, at most so many levels down
abbrev pub notes_in : (ℕ → List Note) → WrittenType → List Note
notes_in inner (TypedefName n) = inner n
notes_in inner (NullableOf t) = notes_in inner t
notes_in inner t = []

abbrev pub notes_of_typedef : (ℕ → List Note) → Option Typedef → List Note
notes_of_typedef inner None = []
notes_of_typedef inner (Some t) = t.notes ++ notes_in inner t.written

abbrev pub notes_after : List Typedef → ℕ → ℕ → List Note
notes_after all zero n = []
notes_after all (suc levels) n = notes_of_typedef (notes_after all levels) (slice_get all n)

-- all annotations of a type: its own, and those of the typedefs that it leads to
abbrev pub all_notes : List PlainDefinition → TypeUse → List Note
all_notes definitions u = notes_of u.attributes ++ notes_in (notes_after (typedefs definitions) (length (typedefs definitions))) (written_type definitions u.ty)

-- of two places the later one
abbrev pub later : Place → Place → Place
later p q = if is_before p q then q else p

-- a type has `[Clamp]` and `[EnforceRange]`: at the name that stands later
pub record HasBoth (notes : List Note) (s : Violation) : Type 0 where
  pub clamp : Note
  pub enforce : Note
  pub clamp_listed : Contains notes clamp
  pub enforce_listed : Contains notes enforce
  pub clamps : clamp.annotation ≡ ClampTo
  pub enforces : enforce.annotation ≡ EnforceRange
  pub at_later : violation_at (later clamp.at enforce.at) ≡ s

-- rule 29: a type has both annotations: at the later of the two
abbrev pub HasClampAndEnforceRange : List PlainDefinition → TypeUse → Violation → Type 0
HasClampAndEnforceRange definitions u s = HasBoth (all_notes definitions u) s

-- rule 37: an attribute of promise type that isn't read only: at its name
abbrev pub IsWritablePromise : List PlainDefinition → Node → Violation → Type 0
IsWritablePromise definitions (MemberNode (AttributeMember a)) s = ((a.readonly ≡ false) × (is_promise (meaning_of_annotated definitions [] a.ty) ≡ true)) × IsAt a.name.at s
IsWritablePromise definitions node s = ⊥

-- rule 34: a stringifier attribute is neither a DOMString nor a USVString: at the word `stringifier`
abbrev pub IsOtherStringifier : List PlainDefinition → Node → Violation → Type 0
IsOtherStringifier definitions (MemberNode (AttributeMember a)) s = (is_unit_string (meaning_of_annotated definitions [] a.ty) ≡ false) × AtPlace (word_of_attribute a.kind) s
IsOtherStringifier definitions node s = ⊥

abbrev pub is_undefined_form : PlainForm → Bool
is_undefined_form PlainUndefined = true
is_undefined_form form = false

abbrev pub is_undefined_word : PlainType → Bool
is_undefined_word (plain_type at form question) = is_undefined_form form

-- whether `undefined` may be the whole type
abbrev pub takes_undefined : TypeRole → Bool
takes_undefined role.Returned = true
takes_undefined role.Promised = true
takes_undefined other = false

-- rule 40: the word `undefined` elsewhere than as a whole return type or the whole type of a promise: at the word
abbrev pub IsUndefinedInside : TypeUse → Violation → Type 0
IsUndefinedInside u s = ((is_undefined_word u.ty ≡ true) × (not (takes_undefined u.role) || has_question u.ty ≡ true)) × IsAt (type_place u.ty) s
