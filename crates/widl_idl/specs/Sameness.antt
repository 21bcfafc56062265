-- For proofs alone. A test of terms for equality.
use Rattle.std.specs.Prelude.{Bool, true, false, ◌&&◌, nat_eq}
use Rattle.widl_idl.specs.declared.int_kind.IntKind.{IntKind}
use Rattle.widl_idl.specs.declared.int_kind.IntKind.TheVariants.{Byte, Octet, Short, UShort, Long, ULong, LongLong, ULongLong}
use Rattle.widl_idl.specs.declared.int_kind.Mode.{Mode}
use Rattle.widl_idl.specs.declared.int_kind.Mode.TheVariants.{Wrap, Clamp, Enforce}
use Rattle.widl_idl.specs.declared.text_kind.TextKind.{TextKind}
use Rattle.widl_idl.specs.declared.text_kind.TextKind.TheVariants as texts
use Rattle.widl_idl.specs.Terms.{TypeTerm, TypeTerms, AnyType, UndefinedType, BooleanType, IntegerType, StringType, EnumerationType, InterfaceType, CallbackFunctionType, CallbackInterfaceType, DictionaryType, ObjectType, SequenceType, RecordType, PromiseType, NullableType, UnionType, no_types, more_types}

abbrev pub same_kind : IntKind → IntKind → Bool
same_kind Byte Byte = true
same_kind Octet Octet = true
same_kind Short Short = true
same_kind UShort UShort = true
same_kind Long Long = true
same_kind ULong ULong = true
same_kind LongLong LongLong = true
same_kind ULongLong ULongLong = true
same_kind k l = false

abbrev pub same_mode : Mode → Mode → Bool
same_mode Wrap Wrap = true
same_mode Clamp Clamp = true
same_mode Enforce Enforce = true
same_mode m n = false

abbrev pub same_text : TextKind → TextKind → Bool
same_text texts.Dom texts.Dom = true
same_text texts.Usv texts.Usv = true
same_text texts.Byte texts.Byte = true
same_text k l = false

abbrev pub same_bool : Bool → Bool → Bool
same_bool true b = b
same_bool false true = false
same_bool false false = true

abbrev mutual
  pub same_term : TypeTerm → TypeTerm → Bool
  same_term AnyType AnyType = true
  same_term UndefinedType UndefinedType = true
  same_term BooleanType BooleanType = true
  same_term (IntegerType k m) (IntegerType l n) = same_kind k l && same_mode m n
  same_term (StringType k b) (StringType l c) = same_text k l && same_bool b c
  same_term (EnumerationType m) (EnumerationType n) = nat_eq m n
  same_term (InterfaceType m) (InterfaceType n) = nat_eq m n
  same_term (CallbackFunctionType m) (CallbackFunctionType n) = nat_eq m n
  same_term (CallbackInterfaceType m) (CallbackInterfaceType n) = nat_eq m n
  same_term (DictionaryType m) (DictionaryType n) = nat_eq m n
  same_term ObjectType ObjectType = true
  same_term (SequenceType t) (SequenceType u) = same_term t u
  same_term (RecordType k t) (RecordType l u) = same_text k l && same_term t u
  same_term (PromiseType t) (PromiseType u) = same_term t u
  same_term (NullableType t) (NullableType u) = same_term t u
  same_term (UnionType ts) (UnionType us) = same_terms ts us
  same_term t u = false

  pub same_terms : TypeTerms → TypeTerms → Bool
  same_terms no_types no_types = true
  same_terms (more_types t ts) (more_types u us) = same_term t u && same_terms ts us
  same_terms ts us = false
