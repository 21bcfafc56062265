-- The rules of validity on default values and on arguments that a call may leave out, each as one predicate over what is written and the merged list.
-- Source: Web IDL, "Default values", "Dictionaries" and "arguments".
use Rattle.std.specs.Prelude.{◌≡◌, ◌⊎◌, ℕ, Bool, true, false, List, [], ◌∷◌, ◌++◌, Contains, flat_map, slice_get, nat_le, Option, None, Some, bytes_eq}
use Rattle.std.specs.List.{list_all, list_any}
use Rattle.widl_idl.specs.declared.enumeration.Choice.{Choice}
use Rattle.widl_idl.specs.declared.violation.Violation.{Violation}
use Rattle.widl_idl.specs.declared.text_kind.TextKind.{TextKind}
use Rattle.widl_idl.specs.declared.text_kind.TextKind.TheVariants as texts
use Rattle.widl_idl.specs.DefinitionTerms.{DefsTerm}
use Rattle.widl_idl.specs.Flattened.{flattened_member, includes_nullable_type}
use Rattle.widl_idl.specs.First.{Somewhere}
use Rattle.widl_idl.specs.MergingRules.{IsAt}
use Rattle.widl_idl.specs.PlainTypes.{PlainAnnotated, PlainAttribute, PlainLiteral, PlainValue, NullValue, UndefinedValue, BooleanValue, IntegerValue, TextValue, EmptySequenceValue, EmptyDictionaryValue}
use Rattle.widl_idl.specs.PlainTrees.{PlainArgument, PlainArgumentKind, RequiredArgument, OptionalArgument, VariadicArgument, PlainDictionaryMember, PlainDefinition, PlainKind, DictionaryDefinition}
use Rattle.widl_idl.specs.Terms.{TypeTerm, AnyType, BooleanType, IntegerType, StringType, EnumerationType, DictionaryType, SequenceType, NullableType}
use Rattle.widl_text.specs.IntegerTokens.{integer_of}
use Rattle.widl_idl.specs.WrittenLiterals.{units_of}
use Rattle.widl_idl.specs.WrittenTypes.{meaning_with}
use Rattle.widl_overload.specs.rules.ArgumentRules.{argument_lists_of, is_required}
use Rattle.widl_overload.specs.rules.Dictionaries.{HasRequired}
use Rattle.widl_idl.specs.Ranges.{is_in_range}

-- whether a string type has the text: a ByteString has no unit above 255
abbrev pub has_text : TextKind → List ℕ → Bool
has_text texts.Byte units = list_all (λ u. nat_le u 255) units
has_text kind units = true

abbrev pub has_value : List ℕ → Option Choice → Bool
has_value units None = false
has_value units (Some c) = list_any (λ v. bytes_eq v units) c.values

module _ (list : DefsTerm) where
  -- a literal is a value of a type that is neither nullable nor a union
  abbrev pub IsValueOf : TypeTerm → PlainValue → Type 0
  IsValueOf AnyType NullValue = Unit {0}
  IsValueOf AnyType UndefinedValue = Unit {0}
  IsValueOf BooleanType (BooleanValue b) = Unit {0}
  IsValueOf (IntegerType kind mode) (IntegerValue text) = is_in_range kind (integer_of text) ≡ true
  IsValueOf (StringType kind null_empty) (TextValue text) = has_text kind (units_of text) ≡ true
  IsValueOf (EnumerationType n) (TextValue text) = has_value (units_of text) (slice_get list.choices n) ≡ true
  IsValueOf (SequenceType t) EmptySequenceValue = Unit {0}
  IsValueOf (DictionaryType n) EmptyDictionaryValue = HasRequired list.dicts n → ⊥
  IsValueOf t value = ⊥

  -- the value is null, and the type includes a nullable type
  abbrev pub IsNullOf : TypeTerm → PlainValue → Type 0
  IsNullOf t NullValue = includes_nullable_type t ≡ true
  IsNullOf t value = ⊥

  -- one of the flattened members of a type, or the type without its `?`, has the value
  pub record FitsMember (t : TypeTerm) (value : PlainValue) : Type 0 where
    pub member : TypeTerm
    pub listed : Contains (flattened_member t) member
    pub is_value : IsValueOf member value

  -- a literal fits a type
  abbrev pub Fits : TypeTerm → PlainValue → Type 0
  Fits t value = IsNullOf t value ⊎ FitsMember t value

-- a type with its default value, as they are written
pub record Defaulted : Type 0 where
  pub attributes : List PlainAttribute
  pub ty : PlainAnnotated
  pub value : PlainLiteral

abbrev pub defaulted : List PlainAttribute → PlainAnnotated → Option PlainLiteral → List Defaulted
defaulted attributes ty None = []
defaulted attributes ty (Some value) = record { attributes = attributes; ty = ty; value = value } ∷ []

abbrev pub default_of : PlainArgumentKind → Option PlainLiteral
default_of (OptionalArgument default) = default
default_of kind = None

abbrev pub defaults_of_arguments : List PlainArgument → List Defaulted
defaults_of_arguments arguments = flat_map (λ (a : PlainArgument). defaulted a.attributes a.ty (default_of a.kind)) arguments

abbrev pub dictionary_members_written : PlainKind → List PlainDictionaryMember
dictionary_members_written (DictionaryDefinition d) = d.members
dictionary_members_written kind = []

abbrev pub defaults_of_members : PlainKind → List Defaulted
defaults_of_members kind = flat_map (λ (m : PlainDictionaryMember). defaulted m.attributes m.ty m.default) (dictionary_members_written kind)

-- all default values that are written in these definitions: of arguments and of dictionary members
abbrev pub defaults_of : List PlainDefinition → List Defaulted
defaults_of definitions = flat_map defaults_of_arguments (argument_lists_of true definitions) ++ flat_map (λ (d : PlainDefinition). defaults_of_members d.kind) definitions

module _ (list : DefsTerm) (definitions : List PlainDefinition) where
  -- a default value doesn't fit its type: at the value
  abbrev pub IsOtherDefault : Defaulted → Violation → Type 0
  IsOtherDefault d s = (Fits list (meaning_with definitions d.attributes d.ty) d.value.value → ⊥) × IsAt d.value.at s

  -- rule 16: a default value does not fit its type: at the value
  abbrev pub HasOtherDefault : Violation → Type 0
  HasOtherDefault s = Somewhere IsOtherDefault (defaults_of definitions) s

  -- the types that a call may give values of: the flattened members of a union, or the type itself; a nullable type is neither
  abbrev pub members_of_type : TypeTerm → List TypeTerm
  members_of_type (NullableType t) = []
  members_of_type t = flattened_member t

  -- a type is a dictionary without required members, inherited ones included, or a union with one
  pub record TakesNoMember (t : TypeTerm) : Type 0 where
    pub dictionary : ℕ
    pub listed : Contains (members_of_type t) (DictionaryType dictionary)
    pub bare : HasRequired list.dicts dictionary → ⊥

  -- whether a call may leave an argument out
  abbrev pub may_be_absent : PlainArgumentKind → Bool
  may_be_absent RequiredArgument = false
  may_be_absent (OptionalArgument default) = true
  may_be_absent (VariadicArgument ellipsis) = true

  abbrev pub HasNoDefault : PlainArgumentKind → Type 0
  HasNoDefault (OptionalArgument None) = Unit {0}
  HasNoDefault kind = ⊥

  -- an argument of such a type is required though a call may leave out all that follow it, or it is optional without a default value: at its name
  pub record LacksEmptyDefault (arguments : List PlainArgument) (s : Violation) : Type 0 where
    pub before : List PlainArgument
    pub argument : PlainArgument
    pub following : List PlainArgument
    pub stands : arguments ≡ before ++ argument ∷ following
    pub bare : TakesNoMember (meaning_with definitions argument.attributes argument.ty)
    pub lacks : ((is_required argument.kind ≡ true) × (list_all (λ (a : PlainArgument). may_be_absent a.kind) following ≡ true)) ⊎ HasNoDefault argument.kind
    pub at_name : IsAt argument.name.at s

-- rule 26: an argument of an operation or a constructor takes a dictionary without required members, and has no default value: at its name
abbrev pub HasNoEmptyDefault : DefsTerm → List PlainDefinition → Violation → Type 0
HasNoEmptyDefault list definitions s = Somewhere (LacksEmptyDefault list definitions) (argument_lists_of false definitions) s
