-- Resolved types as plain terms: a type without the places in memory of its parts.
use Rattle.std.specs.Prelude.{ℕ, Bool, List, [], ◌∷◌, map}
use Rattle.widl_idl.specs.declared.int_kind.IntKind.{IntKind}
use Rattle.widl_idl.specs.declared.int_kind.Mode.{Mode}
use Rattle.widl_idl.specs.declared.text_kind.TextKind.{TextKind}
use Rattle.widl_idl.specs.declared.types.IdlType.{IdlType}
use Rattle.widl_idl.specs.declared.types.IdlType.TheOpen.{IdlType-F, IdlTypes-F, Any, Undefined, Boolean, Int, Text, Choice, Interface, CallbackFn, CallbackIface, Dict, Object, Seq, Rec, Promise, Nullable, Union}
use Rattle.widl_idl.specs.declared.types.IdlType.TheFolds.{fold-IdlType}
use Rattle.widl_idl.specs.declared.types.IdlTypes.{IdlTypes}

mutual
  pub data TypeTerm : Type 0 where
    AnyType : TypeTerm
    UndefinedType : TypeTerm
    BooleanType : TypeTerm
    IntegerType : IntKind → Mode → TypeTerm
    StringType : TextKind → Bool → TypeTerm
    EnumerationType : ℕ → TypeTerm
    InterfaceType : ℕ → TypeTerm
    CallbackFunctionType : ℕ → TypeTerm
    CallbackInterfaceType : ℕ → TypeTerm
    DictionaryType : ℕ → TypeTerm
    ObjectType : TypeTerm
    SequenceType : TypeTerm → TypeTerm
    RecordType : TextKind → TypeTerm → TypeTerm
    PromiseType : TypeTerm → TypeTerm
    NullableType : TypeTerm → TypeTerm
    UnionType : TypeTerms → TypeTerm

  pub data TypeTerms : Type 0 where
    no_types : TypeTerms
    more_types : TypeTerm → TypeTerms → TypeTerms

abbrev pub packed : List TypeTerm → TypeTerms
packed [] = no_types
packed (t ∷ ts) = more_types t (packed ts)

-- one level of a type, where the levels below are terms
abbrev pub term_of_level : IdlType-F TypeTerm TypeTerms → TypeTerm
term_of_level Any = AnyType
term_of_level Undefined = UndefinedType
term_of_level Boolean = BooleanType
term_of_level (Int kind mode) = IntegerType kind mode
term_of_level (Text kind null_empty) = StringType kind null_empty
term_of_level (Choice n) = EnumerationType n
term_of_level (Interface n) = InterfaceType n
term_of_level (CallbackFn n) = CallbackFunctionType n
term_of_level (CallbackIface n) = CallbackInterfaceType n
term_of_level (Dict n) = DictionaryType n
term_of_level Object = ObjectType
term_of_level (Seq t) = SequenceType t.value
term_of_level (Rec key t) = RecordType key t.value
term_of_level (Promise t) = PromiseType t.value
term_of_level (Nullable t) = NullableType t.value
term_of_level (Union ts) = UnionType ts

abbrev pub terms_of_level : IdlTypes-F TypeTerm TypeTerms → TypeTerms
terms_of_level ts = packed ts.items.items

-- the term of a type
abbrev pub type_term : IdlType → TypeTerm
type_term = fold-IdlType TypeTerm TypeTerms term_of_level terms_of_level

-- the types of a list, with their places in memory
abbrev pub types_in : IdlTypes → List IdlType
types_in ts = ts.items.items

-- the types of a list, as contracts see it
abbrev pub type_terms : IdlTypes → List TypeTerm
type_terms ts = map type_term (types_in ts)
