-- What is built of the conversions: a line for each kind of type, and one for each kind of value on the way to script. Where something isn't
-- built, its task ends there. This file goes when all is built.
-- Source: this program's own.
use Rattle.std.specs.Prelude.{Bool, true, false}
use Rattle.widl_idl.specs.Terms.{TypeTerm, AnyType, UndefinedType, BooleanType, IntegerType, StringType, EnumerationType, InterfaceType, CallbackFunctionType, CallbackInterfaceType, DictionaryType, ObjectType, SequenceType, RecordType, PromiseType, NullableType, UnionType}
use Rattle.widl_value.specs.IdlTerms.{IdlTerm, UndefinedValue, NullValue, MissingValue, BooleanValue, IntegerValue, StringValue, EnumerationValue, ObjectValue, AnyValue, SequenceValue, RecordValue, DictionaryValue, PromiseValue}

-- the types to which a value of the script is converted, and the IDL values that are converted to the script
pub record Built : Type 0 where
  pub to_type : TypeTerm → Bool
  pub to_script : IdlTerm → Bool

abbrev pub is_built_type : TypeTerm → Bool
is_built_type AnyType = true
is_built_type UndefinedType = true
is_built_type BooleanType = true
is_built_type (IntegerType kind mode) = true
is_built_type (StringType kind null_empty) = true
is_built_type (EnumerationType n) = true
is_built_type (InterfaceType n) = false
is_built_type (CallbackFunctionType n) = false
is_built_type (CallbackInterfaceType n) = false
is_built_type (DictionaryType n) = true
is_built_type ObjectType = true
is_built_type (SequenceType t) = true
is_built_type (RecordType key t) = true
is_built_type (PromiseType t) = false
is_built_type (NullableType t) = is_built_type t
is_built_type (UnionType ts) = true

abbrev pub is_built_value : IdlTerm → Bool
is_built_value UndefinedValue = true
is_built_value NullValue = true
is_built_value MissingValue = true
is_built_value (BooleanValue b) = true
is_built_value (IntegerValue n) = true
is_built_value (StringValue text) = true
is_built_value (EnumerationValue n place) = true
is_built_value (ObjectValue object) = true
is_built_value (AnyValue value) = true
is_built_value (SequenceValue _) = true
is_built_value (RecordValue _) = true
is_built_value (DictionaryValue n _) = true
is_built_value (PromiseValue promise) = false

abbrev pub built_today : Built
built_today = record { to_type = is_built_type; to_script = is_built_value }
