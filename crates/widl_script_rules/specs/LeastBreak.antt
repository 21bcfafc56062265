-- The rules on the names, the places and the steps of a script, and the first that is broken.
-- Source: this program's own.
use Rattle.std.specs.Prelude.{ℕ, List, [], ◌∷◌, Contains, Option}
use Rattle.widl_first.specs.Keys.{IsFirst}
use Rattle.widl_idl.specs.DefinitionTerms.{DefsTerm}
use Rattle.widl_lines.specs.declared.script_place.ScriptPlace.{ScriptPlace}
use Rattle.widl_lines.specs.TextBreaks.{Line}
use Rattle.widl_script_rules.specs.Standings.{Standing, standings}
use Rattle.widl_script_rules.specs.Names.{unknown_names}
use Rattle.widl_script_rules.specs.Placing.{misplaced_words}
use Rattle.widl_script_rules.specs.RepeatedFunctions.{repeated_functions}
use Rattle.widl_script_rules.specs.RepeatedParameters.{repeated_parameters}
use Rattle.widl_script_rules.specs.Targets.{LacksTarget, RepeatsTarget}
use Rattle.widl_script_rules.specs.Arguments.{LacksArgument}
use Rattle.widl_script_rules.specs.Slots.{LacksSlot}
use Rattle.widl_script_rules.specs.Fits.{HasMisfit}
use Rattle.widl_script_rules.specs.CallbacksAndPairs.{RefusesStep}

-- a rule is broken at a place of a script without a break of form
pub data Broken (list : DefsTerm) (script : List Standing) (place : ScriptPlace) : Type 0 where
  unknown : Contains (unknown_names list script) place → Broken list script place
  misplaced : Contains (misplaced_words script) place → Broken list script place
  repeated_function : Contains (repeated_functions list script) place → Broken list script place
  repeated_parameter : Contains (repeated_parameters script) place → Broken list script place
  no_target : LacksTarget list script place → Broken list script place
  two_blocks : RepeatsTarget list script place → Broken list script place
  no_argument : LacksArgument list script place → Broken list script place
  no_slot : LacksSlot list script place → Broken list script place
  misfit : HasMisfit list script place → Broken list script place
  no_step : RefusesStep list script place → Broken list script place

-- by line, column, rule
abbrev pub place_key : ScriptPlace → List ℕ
place_key p = p.line ∷ p.column ∷ p.rule ∷ []

-- the first of these rules that is broken
abbrev pub IsLeastBreak : DefsTerm → List Line → Option ScriptPlace → Type 0
IsLeastBreak list lines place = IsFirst place_key (Broken list (standings lines)) place
