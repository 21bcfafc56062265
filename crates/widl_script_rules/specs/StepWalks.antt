-- For proofs alone. What the lines of steps blocks break, line by line.
use Rattle.std.specs.Prelude.{◌≡◌, List, ◌∷◌, Contains, Option, Some, MatchOption}
use Rattle.widl_first.specs.Keys.{Either}
use Rattle.widl_idl.specs.DefinitionTerms.{DefsTerm}
use Rattle.widl_lines.specs.declared.script_place.ScriptPlace.{ScriptPlace}
use Rattle.widl_lines.specs.TextBreaks.{Line}
use Rattle.widl_script_tree.specs.declared.steps.StepLine.{StepLine}
use Rattle.widl_script_tree.specs.declared.steps.Target.{Target}
use Rattle.widl_script_words.specs.Signs.{SpellsLine}
use Rattle.widl_script_words.specs.SpelledSteps.{step_signs}
use Rattle.widl_script_rules.specs.Standings.{Standing}
use Rattle.widl_script_rules.specs.Targets.{Overload, Opens, overload_of}
use Rattle.widl_script_rules.specs.StepUses.{IsStep}
use Rattle.widl_script_rules.specs.Arguments.{lost_words}
use Rattle.widl_script_rules.specs.Slots.{lost_slots}
use Rattle.widl_script_rules.specs.CallbacksAndPairs.{refused_words}
use Rattle.widl_script_rules.specs.Fits.{Misfits}
use Rattle.widl_script_rules.specs.UsedPlaces.{AtWords}

-- one of the rules on step lines is broken at a place of this step line
abbrev pub InStep : DefsTerm → Overload → Line → StepLine → ScriptPlace → Type 0
InStep list o line step = Either (Either (Either (AtWords 11 line (Contains (lost_words o step))) (AtWords 12 line (Contains (lost_slots o step)))) (AtWords 14 line (Contains (refused_words list o step)))) (AtWords 13 line (Misfits list o step))

-- the innermost of the blocks is a steps block for this overload
pub record IsFor (list : DefsTerm) (around : List Line) (overload : Overload) : Type 0 where
  pub opening : Line
  pub outer : List Line
  pub around_is : around ≡ opening ∷ outer
  pub target : Target
  pub opens : Opens opening target
  pub there : overload_of list target ≡ Some overload

-- the overload that the innermost block is for, if there is one
abbrev pub IsForOne : DefsTerm → List Line → Option Overload → Type 0
IsForOne list around o = MatchOption o ((v : Overload) → IsFor list around v → ⊥) (IsFor list around)

-- a line among these blocks breaks one of the rules
pub record InLine (list : DefsTerm) (around : List Line) (line : Line) (place : ScriptPlace) : Type 0 where
  pub overload : Overload
  pub is_for : IsFor list around overload
  pub step : StepLine
  pub spelled : SpellsLine (step_signs step) line.words
  pub breaks : InStep list overload line step place

-- a line of the script does
pub record InScript (list : DefsTerm) (script : List Standing) (place : ScriptPlace) : Type 0 where
  pub overload : Overload
  pub line : Line
  pub step : StepLine
  pub is_step : IsStep list script overload line step
  pub breaks : InStep list overload line step place
