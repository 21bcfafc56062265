-- The result of a callee none of whose lines returns: the default of its type, if it has one.
-- Source: this program's own.
use Rattle.std.specs.Prelude.{false, if◌then◌else◌, [], ℕ, pos}
use Rattle.widl_dialog.specs.Dialog.{End, Steps}
use Rattle.widl_idl.specs.DefinitionTerms.{DefsTerm}
use Rattle.widl_idl.specs.Terms.{TypeTerm, AnyType, UndefinedType, BooleanType, IntegerType, StringType, EnumerationType, DictionaryType, SequenceType, RecordType, NullableType}
use Rattle.widl_value.specs.declared.value.Value.TheVariants as values
use Rattle.widl_value.specs.IdlTerms.{UndefinedValue, NullValue, BooleanValue, IntegerValue, StringValue, EnumerationValue, AnyValue, SequenceValue, RecordValue, no_values, no_entries}
use Rattle.widl_trace.specs.declared.code.Code.TheVariants as code
use Rattle.widl_steps.specs.Dictionaries.{requires_member}
use Rattle.widl_steps.specs.Tasks.{Convert}
use Rattle.widl_steps.specs.Words.{gives, fails}
use Rattle.widl_steps.specs.CallTasks.{Of, CallTalk}

-- a dictionary is made from undefined
abbrev pub dictionary_result : DefsTerm → ℕ → CallTalk
dictionary_result list n = if requires_member list n then fails code.NoDefault else Steps (Of (Convert (DictionaryType n) values.Undefined)) End

-- a union has none, also one that includes a nullable type
abbrev pub default_result : DefsTerm → TypeTerm → CallTalk
default_result list AnyType = gives (AnyValue values.Undefined)
default_result list UndefinedType = gives UndefinedValue
default_result list BooleanType = gives (BooleanValue false)
default_result list (IntegerType kind mode) = gives (IntegerValue (pos 0))
default_result list (StringType kind null_empty) = gives (StringValue [])
default_result list (EnumerationType n) = gives (EnumerationValue n 0)
default_result list (SequenceType t) = gives (SequenceValue no_values)
default_result list (RecordType key t) = gives (RecordValue no_entries)
default_result list (NullableType t) = gives NullValue
default_result list (DictionaryType n) = dictionary_result list n
default_result list _ = fails code.NoDefault
