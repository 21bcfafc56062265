-- What a written type means: typedefs replaced by their types, and annotations applied (Web IDL, "Typedefs" and "Annotated types").
use Rattle.std.specs.Prelude.{ℕ, ◌++◌, Bool, true, false, ◌||◌, ◌&&◌, List, [], ◌∷◌, length, zero, suc, Option, None, Some, slice_get, if◌then◌else◌}
use Rattle.widl_text.specs.declared.place.Place.{Place}
use Rattle.widl_idl.specs.declared.int_kind.Mode.{Mode}
use Rattle.widl_idl.specs.declared.int_kind.Mode.TheVariants.{Wrap, Clamp, Enforce}
use Rattle.widl_idl.specs.declared.text_kind.TextKind.{TextKind}
use Rattle.widl_idl.specs.declared.text_kind.TextKind.TheVariants as texts
use Rattle.widl_idl.specs.First.{is_before}
use Rattle.widl_idl.specs.Terms.{TypeTerm, TypeTerms, AnyType, IntegerType, StringType, SequenceType, RecordType, PromiseType, NullableType, UnionType, no_types, more_types}

-- the annotations that change a type
pub data Annotation : Type 0 where
  ClampTo : Annotation
  EnforceRange : Annotation
  LegacyNullToEmptyString : Annotation

-- an annotation, and the place of its name
pub record Note : Type 0 where
  pub annotation : Annotation
  pub at : Place

mutual
  -- a written type, in which a name is a typedef's by its number, or another definition's type
  pub data WrittenType : Type 0 where
    WithoutParts : TypeTerm → WrittenType
    TypedefName : ℕ → WrittenType
    SequenceOf : List Note → WrittenType → WrittenType
    RecordOf : TextKind → List Note → WrittenType → WrittenType
    PromiseOf : WrittenType → WrittenType
    NullableOf : WrittenType → WrittenType
    UnionOf : WrittenMembers → WrittenType

  -- the members of a written union, each with its annotations
  pub data WrittenMembers : Type 0 where
    no_members : WrittenMembers
    more_members : List Note → WrittenType → WrittenMembers → WrittenMembers

-- a typedef: the annotations of its type, and its type
pub record Typedef : Type 0 where
  pub notes : List Note
  pub written : WrittenType

-- an annotation that sets a mode, and its place
pub record ModeNote : Type 0 where
  pub mode : Mode
  pub at : Place

abbrev pub mode_note : Annotation → Place → Option ModeNote
mode_note ClampTo p = Some (record { mode = Clamp; at = p })
mode_note EnforceRange p = Some (record { mode = Enforce; at = p })
mode_note LegacyNullToEmptyString p = None

abbrev pub earlier_mode : Option ModeNote → Option ModeNote → Option ModeNote
earlier_mode None n = n
earlier_mode (Some m) None = Some m
earlier_mode (Some m) (Some n) = if is_before n.at m.at then Some n else Some m

-- of the annotations that set a mode, the one whose name comes first
abbrev pub first_mode : List Note → Option ModeNote
first_mode [] = None
first_mode (n ∷ notes) = earlier_mode (mode_note n.annotation n.at) (first_mode notes)

abbrev pub mode_or_wrap : Option ModeNote → Mode
mode_or_wrap None = Wrap
mode_or_wrap (Some n) = n.mode

abbrev pub is_null_to_empty : Annotation → Bool
is_null_to_empty ClampTo = false
is_null_to_empty EnforceRange = false
is_null_to_empty LegacyNullToEmptyString = true

abbrev pub has_null_to_empty : List Note → Bool
has_null_to_empty [] = false
has_null_to_empty (n ∷ notes) = is_null_to_empty n.annotation || has_null_to_empty notes

-- the string types to which the annotation for null applies
abbrev pub takes_null_to_empty : TextKind → Bool
takes_null_to_empty texts.Dom = true
takes_null_to_empty texts.Usv = true
takes_null_to_empty texts.Byte = false

-- a type with those of the annotations that apply to it
abbrev pub annotated : List Note → TypeTerm → TypeTerm
annotated notes (IntegerType kind mode) = IntegerType kind (mode_or_wrap (first_mode notes))
annotated notes (StringType kind null_empty) = StringType kind (takes_null_to_empty kind && has_null_to_empty notes)
annotated notes t = t

abbrev pub is_nullable : TypeTerm → Bool
is_nullable (NullableType t) = true
is_nullable t = false

abbrev pub is_nullable_twice : TypeTerm → Bool
is_nullable_twice (NullableType t) = is_nullable t
is_nullable_twice t = false

-- a type with a `?`: after two of them, of which a rule forbids the second, a third one adds nothing
abbrev pub nullable_of : TypeTerm → TypeTerm
nullable_of t = if is_nullable_twice t then t else NullableType t

module _ (typedef : ℕ → List Note → TypeTerm) where
  abbrev mutual
    -- the meaning of a written type with these annotations, where `typedef` tells that of a typedef's name; a nullable type hands them to its inner type
    pub resolved : List Note → WrittenType → TypeTerm
    resolved notes (WithoutParts t) = annotated notes t
    resolved notes (TypedefName n) = typedef n notes
    resolved notes (SequenceOf own t) = SequenceType (resolved own t)
    resolved notes (RecordOf key own t) = RecordType key (resolved own t)
    resolved notes (PromiseOf t) = PromiseType (resolved [] t)
    resolved notes (NullableOf t) = nullable_of (resolved notes t)
    resolved notes (UnionOf members) = UnionType (resolved_members members)

    pub resolved_members : WrittenMembers → TypeTerms
    resolved_members no_members = no_types
    resolved_members (more_members own t members) = more_types (resolved own t) (resolved_members members)

abbrev pub resolved_typedef : (ℕ → List Note → TypeTerm) → List Note → Option Typedef → TypeTerm
resolved_typedef inner notes None = AnyType
resolved_typedef inner notes (Some t) = resolved inner (notes ++ t.notes) t.written

-- the meaning of a typedef's name with these annotations, where its typedefs lead at most so many levels down
abbrev pub typedef_in : List Typedef → ℕ → ℕ → List Note → TypeTerm
typedef_in typedefs zero n notes = AnyType
typedef_in typedefs (suc levels) n notes = resolved_typedef (typedef_in typedefs levels) notes (slice_get typedefs n)

-- the meaning of a written type with these annotations; typedefs of which none reaches itself lead fewer levels down than there are typedefs
abbrev pub resolve : List Typedef → List Note → WrittenType → TypeTerm
resolve typedefs notes t = resolved (typedef_in typedefs (length typedefs)) notes t
