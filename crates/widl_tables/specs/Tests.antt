-- The tests by which a value picks an entry of several.
-- Source: Web IDL, "overload resolution algorithm", step 12; "JavaScript binding of union types".
use Rattle.std.specs.Prelude.{Bool, true, false, ◌&&◌, ◌||◌}
use Rattle.std.specs.List.{list_any}
use Rattle.widl_idl.specs.declared.argument.Optionality.{Optionality}
use Rattle.widl_idl.specs.declared.argument.Optionality.TheVariants.{Optional}
use Rattle.widl_idl.specs.DefinitionTerms.{DefsTerm}
use Rattle.widl_idl.specs.Flattened.{flattened_member, includes_nullable_type}
use Rattle.widl_idl.specs.Terms.{TypeTerm, AnyType, BooleanType, IntegerType, StringType, EnumerationType, InterfaceType, CallbackFunctionType, CallbackInterfaceType, ObjectType, SequenceType, RecordType}
use Rattle.widl_overload.specs.sets.Distinct.{has_dictionary, is_dictionary}
use Rattle.widl_value.specs.declared.class.Class.{Class}
use Rattle.widl_value.specs.declared.class.Class.TheVariants as classes
use Rattle.widl_tables.specs.declared.entry_test.Test.{Test}
use Rattle.widl_tables.specs.declared.entry_test.Test.TheVariants.{IsOptional, IsNullable, IsImplemented, IsCallback, IsSequence, IsObject, IsBoolean, IsNumeric, TakesText, TakesNumber, TakesTruth, TakesAny}
use Rattle.widl_tables.specs.Kept.{implements}

-- 1. What is asked of a value, by its class alone

abbrev pub is_undefined : Class → Bool
is_undefined classes.Undefined = true
is_undefined _ = false

abbrev pub is_null_or_undefined : Class → Bool
is_null_or_undefined classes.Undefined = true
is_null_or_undefined classes.Null = true
is_null_or_undefined _ = false

abbrev pub is_platform_object : Class → Bool
is_platform_object (classes.Platform n) = true
is_platform_object _ = false

abbrev pub is_callable : Class → Bool
is_callable classes.Callable = true
is_callable _ = false

abbrev pub is_an_object : Class → Bool
is_an_object (classes.Platform n) = true
is_an_object classes.Callable = true
is_an_object classes.Plain = true
is_an_object _ = false

abbrev pub is_a_boolean : Class → Bool
is_a_boolean classes.Bool = true
is_a_boolean _ = false

abbrev pub is_a_number : Class → Bool
is_a_number classes.Num = true
is_a_number _ = false

-- 2. What is asked of a type that is neither nullable nor annotated nor a union

abbrev pub is_optional : Optionality → Bool
is_optional Optional = true
is_optional _ = false

abbrev pub is_any_type : TypeTerm → Bool
is_any_type AnyType = true
is_any_type _ = false

abbrev pub is_object_type : TypeTerm → Bool
is_object_type ObjectType = true
is_object_type _ = false

abbrev pub is_implemented_by : DefsTerm → Class → TypeTerm → Bool
is_implemented_by list (classes.Platform m) (InterfaceType n) = implements list m n
is_implemented_by list _ _ = false

abbrev pub is_callback_function : TypeTerm → Bool
is_callback_function (CallbackFunctionType n) = true
is_callback_function _ = false

abbrev pub is_callback_interface : TypeTerm → Bool
is_callback_interface (CallbackInterfaceType n) = true
is_callback_interface _ = false

abbrev pub is_sequence : TypeTerm → Bool
is_sequence (SequenceType t) = true
is_sequence _ = false

abbrev pub is_record : TypeTerm → Bool
is_record (RecordType key t) = true
is_record _ = false

abbrev pub is_boolean_type : TypeTerm → Bool
is_boolean_type BooleanType = true
is_boolean_type _ = false

abbrev pub is_numeric : TypeTerm → Bool
is_numeric (IntegerType kind mode) = true
is_numeric _ = false

-- the string types; enumerations are among them
abbrev pub is_string : TypeTerm → Bool
is_string (StringType kind null_empty) = true
is_string (EnumerationType n) = true
is_string _ = false

-- 3. The tests

-- a type is of that kind, or is nullable, annotated or a union, and an inner type is
abbrev pub some_type : (TypeTerm → Bool) → TypeTerm → Bool
some_type test t = list_any test (flattened_member t)

-- a value of the class meets the test of an entry that has this type and this optionality value there. That of a sequence is met where the
-- value has a method `@iterator` besides, for which a step of the script is needed.
abbrev pub meets : DefsTerm → Test → Class → TypeTerm → Optionality → Bool
meets list IsOptional class t opt = is_undefined class && is_optional opt
meets list IsNullable class t opt = is_null_or_undefined class && (includes_nullable_type t || has_dictionary t)
meets list IsImplemented class t opt = is_platform_object class && some_type (λ m. is_implemented_by list class m || is_object_type m) t
meets list IsCallback class t opt = is_callable class && some_type (λ m. is_callback_function m || is_object_type m) t
meets list IsSequence class t opt = is_an_object class && some_type is_sequence t
meets list IsObject class t opt = is_an_object class && some_type (λ m. (is_callback_interface m || is_dictionary m) || (is_record m || is_object_type m)) t
meets list IsBoolean class t opt = is_a_boolean class && some_type is_boolean_type t
meets list IsNumeric class t opt = is_a_number class && some_type is_numeric t
meets list TakesText class t opt = some_type is_string t
meets list TakesNumber class t opt = some_type is_numeric t
meets list TakesTruth class t opt = some_type is_boolean_type t
meets list TakesAny class t opt = some_type is_any_type t
