-- Values of the script to Numbers, Strings and lengths, and to the IDL types that need no more than one of these; and all types together.
-- Source: ECMA-262, ToNumber, ToString, ToLength; Web IDL, "JavaScript type mapping": any, undefined, boolean, the integer types, the string
-- types, enumerations, object.
use Rattle.std.specs.Prelude.{ℕ, Bool, if◌then◌else◌, nat_le, List, [], Option, None, Some, pos}
use Rattle.std.specs.List.{list_all}
use Rattle.std.specs.declared.result.Result.{Result}
use Rattle.std.specs.declared.result.Result.TheVariants as results
use Rattle.std.specs.Prelude.{ℤ}
use Rattle.widl_dialog.specs.Dialog.{End, Steps}
use Rattle.widl_idl.specs.declared.int_kind.IntKind.{IntKind}
use Rattle.widl_idl.specs.declared.int_kind.Mode.{Mode}
use Rattle.widl_idl.specs.declared.text_kind.TextKind.{TextKind}
use Rattle.widl_idl.specs.declared.text_kind.TextKind.TheVariants as texts
use Rattle.widl_idl.specs.DefinitionTerms.{DefsTerm}
use Rattle.widl_idl.specs.Terms.{TypeTerm, AnyType, UndefinedType, BooleanType, IntegerType, StringType, EnumerationType, DictionaryType, ObjectType, SequenceType, RecordType, NullableType, UnionType}
use Rattle.widl_value.specs.declared.number.Number.{Number}
use Rattle.widl_value.specs.declared.number.Number.TheVariants as numbers
use Rattle.widl_value.specs.declared.value.Value.{Value}
use Rattle.widl_value.specs.declared.value.Value.TheVariants as values
use Rattle.widl_value.specs.IdlTerms.{UndefinedValue, BooleanValue, IntegerValue, StringValue, EnumerationValue, ObjectValue, AnyValue}
use Rattle.widl_scalar.specs.declared.int.NotInRange.{NotInRange}
use Rattle.widl_scalar.specs.declared.primitives.ValueNumber.{ValueNumber}
use Rattle.widl_scalar.specs.declared.primitives.ValueNumber.TheVariants as read
use Rattle.widl_scalar.specs.declared.primitives.ValueText.{ValueText}
use Rattle.widl_scalar.specs.declared.primitives.ValueText.TheVariants as written
use Rattle.widl_scalar.specs.Enumerations.{value_place}
use Rattle.widl_scalar.specs.Primitives.{truth_of, number_in, text_in, length_of}
use Rattle.widl_scalar.specs.Scalars.{integer_of}
use Rattle.widl_scalar.specs.UnitTexts.{scalar_units}
use Rattle.widl_trace.specs.declared.code.Code.TheVariants as code
use Rattle.widl_steps.specs.declared.hint.Hint.TheVariants.{PrefersNumber, PrefersString}
use Rattle.widl_steps.specs.declared.want.Want.{Want}
use Rattle.widl_steps.specs.declared.want.Want.TheVariants as wants
use Rattle.widl_steps.specs.Dictionaries.{to_dictionary}
use Rattle.widl_steps.specs.Nullables.{to_nullable}
use Rattle.widl_steps.specs.Records.{to_record}
use Rattle.widl_steps.specs.Sequences.{to_sequence}
use Rattle.widl_steps.specs.Tasks.{Primitive, Scalar, Talk}
use Rattle.widl_steps.specs.Unions.{to_union}
use Rattle.widl_steps.specs.Words.{gives, returns, fails, no_whole_number, not_built, object, returned, number, text}
use Rattle.widl_steps.specs.Built.{Built}

-- 1. ToNumber: an object by its primitive value

abbrev pub to_number : Value → ValueNumber → Talk
to_number v (read.Number n) = returns (values.Num n)
to_number v read.OutOfProfile = no_whole_number
to_number v read.Symbol = fails code.Symbol
to_number v read.Object = Steps (Primitive PrefersNumber v) (returned (λ p. Steps (Scalar wants.Number p) End))

-- 2. ToString: an object by its primitive value

abbrev pub to_text : Value → ValueText → Talk
to_text v (written.Text units) = returns (values.Str units)
to_text v written.Symbol = fails code.Symbol
to_text v written.Object = Steps (Primitive PrefersString v) (returned (λ p. Steps (Scalar wants.Text p) End))

-- 3. ToLength

abbrev pub length_value : Number → Value
length_value n = values.Num (numbers.Whole (pos (length_of n)))

abbrev pub to_length : Value → Talk
to_length v = Steps (Scalar wants.Number v) (number (λ n. returns (length_value n)))

abbrev pub to_scalar : Want → Value → Talk
to_scalar wants.Number v = to_number v (number_in v)
to_scalar wants.Text v = to_text v (text_in v)
to_scalar wants.Length v = to_length v

-- 4. Integer types (ConvertToInt)

abbrev pub integer_result : Result ℤ NotInRange → Talk
integer_result (results.Ok n) = gives (IntegerValue n)
integer_result (results.Err e) = fails code.Range

abbrev pub to_integer : IntKind → Mode → Value → Talk
to_integer kind mode v = Steps (Scalar wants.Number v) (number (λ n. integer_result (integer_of n kind mode)))

-- 5. String types

abbrev pub is_bytes : List ℕ → Bool
is_bytes units = list_all (λ u. nat_le u 255) units

abbrev pub string_result : TextKind → List ℕ → Talk
string_result texts.Dom units = gives (StringValue units)
string_result texts.Usv units = gives (StringValue (scalar_units units))
string_result texts.Byte units = if is_bytes units then gives (StringValue units) else fails code.Byte

abbrev pub to_string : TextKind → Value → Talk
to_string kind v = Steps (Scalar wants.Text v) (text (string_result kind))

-- with [LegacyNullToEmptyString] null is the empty string
abbrev pub null_or_string : Bool → TextKind → Value → Talk
null_or_string null_empty kind values.Null = if null_empty then gives (StringValue []) else to_string kind values.Null
null_or_string null_empty kind v = to_string kind v

-- 6. Enumerations

abbrev pub enumeration_result : ℕ → Option ℕ → Talk
enumeration_result n (Some place) = gives (EnumerationValue n place)
enumeration_result n None = fails code.Enum

abbrev pub to_enumeration : DefsTerm → ℕ → Value → Talk
to_enumeration list n v = Steps (Scalar wants.Text v) (text (λ units. enumeration_result n (value_place list.choices n units)))

-- 7. Types that are neither nullable nor unions. Of those that are left out here no conversion has steps yet.

abbrev pub to_plain : DefsTerm → TypeTerm → Value → Talk
to_plain list AnyType v = gives (AnyValue v)
to_plain list UndefinedType v = gives UndefinedValue
to_plain list BooleanType v = gives (BooleanValue (truth_of v))
to_plain list (IntegerType kind mode) v = to_integer kind mode v
to_plain list (StringType kind null_empty) v = null_or_string null_empty kind v
to_plain list (EnumerationType n) v = to_enumeration list n v
to_plain list ObjectType v = object code.NotObject (λ o. gives (ObjectValue o)) v
to_plain list (SequenceType t) v = to_sequence t v
to_plain list (RecordType key t) v = to_record key t v
to_plain list (DictionaryType n) v = to_dictionary list n v
to_plain list _ v = not_built

abbrev pub convert_plain : Built → DefsTerm → TypeTerm → Value → Talk
convert_plain built list t v = if built.to_type t then to_plain list t v else not_built

-- 8. All types

abbrev pub to_type : Built → DefsTerm → TypeTerm → Value → Talk
to_type built list (NullableType t) v = to_nullable (to_type built list t) v
to_type built list (UnionType ts) v = to_union (convert_plain built list) built list ts v
to_type built list t v = to_plain list t v

abbrev pub convert : Built → DefsTerm → TypeTerm → Value → Talk
convert built list t v = if built.to_type t then to_type built list t v else not_built
