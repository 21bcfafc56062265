-- The entry that a value picks: of several entries of an overload set, or of the member types of a union.
-- Source: Web IDL, "overload resolution algorithm", step 12; "JavaScript binding of union types".
use Rattle.std.specs.Prelude.{ℕ, ◌+◌, ◌&&◌, Bool, true, false, if◌then◌else◌, List, [], ◌∷◌, Option, None, Some, option_and_then}
use Rattle.widl_idl.specs.DefinitionTerms.{DefsTerm}
use Rattle.widl_idl.specs.Flattened.{flattened_members}
use Rattle.widl_idl.specs.Terms.{TypeTerm, TypeTerms}
use Rattle.widl_overload.specs.sets.Distinct.{is_dictionary}
use Rattle.widl_overload.specs.sets.Entries.{type_at, optionality_at}
use Rattle.widl_overload.specs.sets.Sets.{TupleTerm}
use Rattle.widl_scalar.specs.Enumerations.{told_place}
use Rattle.widl_value.specs.declared.class.Class.{Class}
use Rattle.widl_tables.specs.declared.pick.Pick.{Pick}
use Rattle.widl_tables.specs.declared.pick.Pick.TheVariants.{Entry, Probe, Refuse}
use Rattle.widl_tables.specs.declared.entry_test.Test.{Test}
use Rattle.widl_tables.specs.declared.entry_test.Test.TheVariants.{IsOptional, IsNullable, IsImplemented, IsCallback, IsSequence, IsObject, IsBoolean, IsNumeric, TakesText, TakesNumber, TakesTruth, TakesAny}
use Rattle.widl_tables.specs.Tests.{meets, is_null_or_undefined, is_platform_object, is_callable, is_an_object, is_a_boolean, is_a_number, is_object_type, is_implemented_by, is_callback_function, is_callback_interface, is_sequence, is_record, is_boolean_type, is_numeric, is_string}

-- 1. One test after another

-- the first entry that meets a test, and whether the value has to have a method `@iterator` besides
pub record Met : Type 0 where
  pub needs_method : Bool
  pub entry : Option ℕ

-- goes on with the pick of the later tests where no entry meets this one. A method is looked for once.
abbrev pub picks_by : Bool → Bool → Option ℕ → Pick → Pick
picks_by probed needs_method None later = later
picks_by probed false (Some e) later = Entry e
picks_by probed true (Some e) later = if probed then later else Probe e

-- the first test that an entry meets takes that entry
abbrev pub first_pick : Bool → List Met → Pick
first_pick probed [] = Refuse
first_pick probed (m ∷ more) = picks_by probed m.needs_method m.entry (first_pick probed more)

-- 2. Of several entries, by the argument at a place

abbrev pub first_entry : DefsTerm → ℕ → Class → Test → List TupleTerm → Option ℕ
first_entry list place class test [] = None
first_entry list place class test (t ∷ entries) =
    if meets list test class (type_at t place) (optionality_at t place) then Some t.overload else first_entry list place class test entries

abbrev pub is_probe : Test → Bool
is_probe IsSequence = true
is_probe _ = false

-- in the order of the standard's steps
abbrev pub tests : List Test
tests = IsOptional ∷ IsNullable ∷ IsImplemented ∷ IsCallback ∷ IsSequence ∷ IsObject ∷ IsBoolean ∷ IsNumeric ∷ TakesText ∷ TakesNumber ∷ TakesTruth ∷ TakesAny ∷ []

abbrev pub met_by : DefsTerm → List TupleTerm → ℕ → Class → List Test → List Met
met_by list entries place class [] = []
met_by list entries place class (t ∷ more) = record { needs_method = is_probe t; entry = first_entry list place class t entries } ∷ met_by list entries place class more

-- the overload that an argument of the class at the place picks; `probed` says that the argument has been found to have no method `@iterator`
abbrev pub pick_of : DefsTerm → List TupleTerm → ℕ → Class → Bool → Pick
pick_of list entries place class probed = first_pick probed (met_by list entries place class tests)

-- an entry alone takes every value; with several the place by which they are chosen decides
abbrev pub pick_kept : DefsTerm → List TupleTerm → Option ℕ → Class → Bool → Pick
pick_kept list [] place class probed = Refuse
pick_kept list (t ∷ []) place class probed = Entry t.overload
pick_kept list (t ∷ u ∷ more) None class probed = Refuse
pick_kept list (t ∷ u ∷ more) (Some place) class probed = pick_of list (t ∷ u ∷ more) place class probed

-- 3. Of the member types of a union, by their places, which 32 bits tell

abbrev pub first_member : (TypeTerm → Bool) → ℕ → List TypeTerm → Option ℕ
first_member test place [] = None
first_member test place (t ∷ types) = if test t then Some place else first_member test (place + 1) types

abbrev pub takes : (TypeTerm → Bool) → List TypeTerm → Met
takes test types = record { needs_method = false; entry = option_and_then told_place (first_member test 0 types) }

abbrev pub takes_iterable : (TypeTerm → Bool) → List TypeTerm → Met
takes_iterable test types = record { needs_method = true; entry = option_and_then told_place (first_member test 0 types) }

-- in the order of the standard's steps, a line each; the step before them is that of a union with a nullable type
abbrev pub met_members : DefsTerm → Class → List TypeTerm → List Met
met_members list class types =
    takes (λ m. is_null_or_undefined class && is_dictionary m) types
    ∷ takes (λ m. is_implemented_by list class m) types
    ∷ takes (λ m. is_platform_object class && is_object_type m) types
    ∷ takes (λ m. is_callable class && is_callback_function m) types
    ∷ takes (λ m. is_callable class && is_object_type m) types
    ∷ takes_iterable (λ m. is_an_object class && is_sequence m) types
    ∷ takes (λ m. is_an_object class && is_dictionary m) types
    ∷ takes (λ m. is_an_object class && is_record m) types
    ∷ takes (λ m. is_an_object class && is_callback_interface m) types
    ∷ takes (λ m. is_an_object class && is_object_type m) types
    ∷ takes (λ m. is_a_boolean class && is_boolean_type m) types
    ∷ takes (λ m. is_a_number class && is_numeric m) types
    ∷ takes is_string types
    ∷ takes is_numeric types
    ∷ takes is_boolean_type types
    ∷ []

-- the place among the flattened member types that a value of the class picks
abbrev pub pick_member_of : DefsTerm → TypeTerms → Class → Bool → Pick
pick_member_of list members class probed = first_pick probed (met_members list class (flattened_members members))
