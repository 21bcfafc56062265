-- For proofs alone. What the program asks of values and of types, by name, and how many types stand before the first that answers yes.
use Rattle.std.specs.Prelude.{ℕ, ◌+◌, Bool, true, ◌||◌, if◌then◌else◌, List, [], ◌∷◌, Option, option_and_then}
use Rattle.widl_idl.specs.DefinitionTerms.{DefsTerm}
use Rattle.widl_idl.specs.Terms.{TypeTerm}
use Rattle.widl_overload.specs.sets.Distinct.{is_dictionary}
use Rattle.widl_scalar.specs.Enumerations.{told_place}
use Rattle.widl_value.specs.declared.class.Class.{Class}
use Rattle.widl_tables.specs.declared.type_test.TypeTest.{TypeTest}
use Rattle.widl_tables.specs.declared.type_test.TypeTest.TheVariants as types
use Rattle.widl_tables.specs.declared.value_test.ValueTest.{ValueTest}
use Rattle.widl_tables.specs.declared.value_test.ValueTest.TheVariants as values
use Rattle.widl_tables.specs.Picks.{first_member}
use Rattle.widl_tables.specs.Tests.{is_undefined, is_null_or_undefined, is_platform_object, is_callable, is_an_object, is_a_boolean, is_a_number, is_any_type, is_object_type, is_implemented_by, is_callback_function, is_callback_interface, is_sequence, is_record, is_boolean_type, is_numeric, is_string}

abbrev pub asks : ValueTest → Class → Bool
asks values.Anything class = true
asks values.Undefined class = is_undefined class
asks values.NullOrUndefined class = is_null_or_undefined class
asks values.PlatformObject class = is_platform_object class
asks values.Callable class = is_callable class
asks values.Object class = is_an_object class
asks values.Boolean class = is_a_boolean class
asks values.Number class = is_a_number class

abbrev pub suits : DefsTerm → Class → TypeTest → TypeTerm → Bool
suits list class types.Implemented t = is_implemented_by list class t
suits list class types.ImplementedOrObject t = is_implemented_by list class t || is_object_type t
suits list class types.CallbackFunction t = is_callback_function t
suits list class types.CallbackFunctionOrObject t = is_callback_function t || is_object_type t
suits list class types.CallbackInterface t = is_callback_interface t
suits list class types.Dictionary t = is_dictionary t
suits list class types.Record t = is_record t
suits list class types.Object t = is_object_type t
suits list class types.FromObject t = (is_callback_interface t || is_dictionary t) || (is_record t || is_object_type t)
suits list class types.Sequence t = is_sequence t
suits list class types.Boolean t = is_boolean_type t
suits list class types.Numeric t = is_numeric t
suits list class types.Text t = is_string t
suits list class types.Any t = is_any_type t

-- how many types stand before the first that meets a test; all of them where none does
abbrev pub before : (TypeTerm → Bool) → List TypeTerm → ℕ
before test [] = 0
before test (t ∷ types) = if test t then 0 else before test types + 1

-- the place of the first, where it is told
abbrev pub told_first : (TypeTerm → Bool) → List TypeTerm → Option ℕ
told_first test types = option_and_then told_place (first_member test 0 types)
