-- Written types and what they mean.
use Rattle.std.proofs.Common.{◌≡◌, ℕ, [], ◌∷◌, true, false, refl}
use Rattle.widl_idl.specs.declared.int_kind.IntKind.TheVariants.{Long}
use Rattle.widl_idl.specs.declared.int_kind.Mode.TheVariants.{Wrap, Clamp, Enforce}
use Rattle.widl_idl.specs.declared.text_kind.TextKind.TheVariants as texts
use Rattle.widl_idl.specs.Terms.{IntegerType, StringType, SequenceType, NullableType, UnionType, BooleanType, no_types, more_types}
use Rattle.widl_idl.specs.Resolution.{Annotation, ClampTo, EnforceRange, LegacyNullToEmptyString, Note, WrittenType, WithoutParts, TypedefName, SequenceOf, NullableOf, UnionOf, no_members, more_members, resolve}

note : Annotation → ℕ → Note
note a offset = record { annotation = a; at = record { file = 0; at = offset } }

long : WrittenType
long = WithoutParts (IntegerType Long Wrap)

-- [Clamp] long?
nullable : resolve [] (note ClampTo 1 ∷ []) (NullableOf long) ≡ NullableType (IntegerType Long Clamp)
unfolding note long
nullable = refl

-- typedef [Clamp] long A; with [EnforceRange] A in front of it, and after it
after : resolve (record { notes = note ClampTo 9 ∷ []; written = long } ∷ []) (note EnforceRange 40 ∷ []) (TypedefName 0) ≡ IntegerType Long Clamp
unfolding note long
after = refl

in_front : resolve (record { notes = note ClampTo 39 ∷ []; written = long } ∷ []) (note EnforceRange 4 ∷ []) (TypedefName 0) ≡ IntegerType Long Enforce
unfolding note long
in_front = refl

-- typedef sequence<B?> A; typedef [Clamp] long B; A
through_two : resolve (record { notes = []; written = SequenceOf [] (NullableOf (TypedefName 1)) } ∷ record { notes = note ClampTo 30 ∷ []; written = long } ∷ []) [] (TypedefName 0) ≡ SequenceType (NullableType (IntegerType Long Clamp))
unfolding note long
through_two = refl

-- [Clamp] boolean, and [LegacyNullToEmptyString] on each string type
unsupported : resolve [] (note ClampTo 1 ∷ []) (WithoutParts BooleanType) ≡ BooleanType
unfolding note
unsupported = refl

on_domstring : resolve [] (note LegacyNullToEmptyString 1 ∷ []) (WithoutParts (StringType texts.Dom false)) ≡ StringType texts.Dom true
unfolding note
on_domstring = refl

on_bytestring : resolve [] (note LegacyNullToEmptyString 1 ∷ []) (WithoutParts (StringType texts.Byte false)) ≡ StringType texts.Byte false
unfolding note
on_bytestring = refl

-- ([Clamp] long or DOMString), itself with an annotation, which applies to no union
members : resolve [] (note EnforceRange 1 ∷ []) (UnionOf (more_members (note ClampTo 5 ∷ []) long (more_members [] (WithoutParts (StringType texts.Dom false)) no_members))) ≡ UnionType (more_types (IntegerType Long Clamp) (more_types (StringType texts.Dom false) no_types))
unfolding note long
members = refl
