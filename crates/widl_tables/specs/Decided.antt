-- For proofs alone. What a test that is met decides, and the tests as the program asks them.
use Rattle.std.specs.Prelude.{ℕ, ◌&&◌, Bool, true, false, if◌then◌else◌, List, [], ◌∷◌, Option, None, Some}
use Rattle.widl_idl.specs.DefinitionTerms.{DefsTerm}
use Rattle.widl_idl.specs.Terms.{TypeTerm}
use Rattle.widl_overload.specs.sets.Sets.{TupleTerm}
use Rattle.widl_value.specs.declared.class.Class.{Class}
use Rattle.widl_tables.specs.declared.entry_test.Test.{Test}
use Rattle.widl_tables.specs.declared.pick.Pick.{Pick}
use Rattle.widl_tables.specs.declared.pick.Pick.TheVariants.{Entry, Probe}
use Rattle.widl_tables.specs.declared.type_test.TypeTest.{TypeTest}
use Rattle.widl_tables.specs.declared.type_test.TypeTest.TheVariants as types
use Rattle.widl_tables.specs.declared.value_test.ValueTest.{ValueTest}
use Rattle.widl_tables.specs.declared.value_test.ValueTest.TheVariants as values
use Rattle.widl_tables.specs.Picks.{Met, first_entry, is_probe}
use Rattle.widl_tables.specs.TypeTests.{asks, suits, told_first}

-- the pick, or none where the later tests decide
abbrev pub decided : Bool → Bool → Option ℕ → Option Pick
decided probed needs_method None = None
decided probed false (Some e) = Some (Entry e)
decided probed true (Some e) = if probed then None else Some (Probe e)

abbrev pub decided_by : Bool → Met → Option Pick
decided_by probed m = decided probed m.needs_method m.entry

-- a test of entries
abbrev pub met_test : DefsTerm → List TupleTerm → ℕ → Class → Test → Met
met_test list entries place class test = record { needs_method = is_probe test; entry = first_entry list place class test entries }

abbrev pub is_iterable : TypeTest → Bool
is_iterable types.Sequence = true
is_iterable _ = false

-- a step of unions
abbrev pub met_step : DefsTerm → Class → List TypeTerm → ValueTest × TypeTest → Met
met_step list class members step = record { needs_method = is_iterable step.1; entry = told_first (λ t. asks step.0 class && suits list class step.1 t) members }

abbrev pub steps : List (ValueTest × TypeTest)
steps =
    (values.NullOrUndefined, types.Dictionary)
    ∷ (values.PlatformObject, types.Implemented)
    ∷ (values.PlatformObject, types.Object)
    ∷ (values.Callable, types.CallbackFunction)
    ∷ (values.Callable, types.Object)
    ∷ (values.Object, types.Sequence)
    ∷ (values.Object, types.Dictionary)
    ∷ (values.Object, types.Record)
    ∷ (values.Object, types.CallbackInterface)
    ∷ (values.Object, types.Object)
    ∷ (values.Boolean, types.Boolean)
    ∷ (values.Number, types.Numeric)
    ∷ (values.Anything, types.Text)
    ∷ (values.Anything, types.Numeric)
    ∷ (values.Anything, types.Boolean)
    ∷ []
