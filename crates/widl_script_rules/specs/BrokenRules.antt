-- For proofs alone. What breaks the rules on names and places, and what breaks those on steps.
use Rattle.std.specs.Prelude.{List, Contains}
use Rattle.widl_first.specs.Keys.{Either}
use Rattle.widl_idl.specs.DefinitionTerms.{DefsTerm}
use Rattle.widl_lines.specs.declared.script_place.ScriptPlace.{ScriptPlace}
use Rattle.widl_script_rules.specs.Standings.{Standing}
use Rattle.widl_script_rules.specs.Names.{unknown_names}
use Rattle.widl_script_rules.specs.Placing.{misplaced_words}
use Rattle.widl_script_rules.specs.RepeatedFunctions.{repeated_functions}
use Rattle.widl_script_rules.specs.RepeatedParameters.{repeated_parameters}
use Rattle.widl_script_rules.specs.Targets.{LacksTarget, RepeatsTarget}
use Rattle.widl_script_rules.specs.Arguments.{LacksArgument}
use Rattle.widl_script_rules.specs.Slots.{LacksSlot}
use Rattle.widl_script_rules.specs.Fits.{HasMisfit}
use Rattle.widl_script_rules.specs.CallbacksAndPairs.{RefusesStep}

module _ (list : DefsTerm) (script : List Standing) where
  abbrev pub BreaksNames : ScriptPlace → Type 0
  BreaksNames = Either (Either (Either (Contains (unknown_names list script)) (Contains (misplaced_words script))) (Contains (repeated_functions list script))) (Contains (repeated_parameters script))

  abbrev pub BreaksTargets : ScriptPlace → Type 0
  BreaksTargets = Either (LacksTarget list script) (RepeatsTarget list script)

  abbrev pub BreaksSteps : ScriptPlace → Type 0
  BreaksSteps = Either (Either (Either (LacksArgument list script) (LacksSlot list script)) (RefusesStep list script)) (HasMisfit list script)

  -- what steps blocks are for, and what their lines say
  abbrev pub BreaksBlocks : ScriptPlace → Type 0
  BreaksBlocks = Either BreaksTargets BreaksSteps
