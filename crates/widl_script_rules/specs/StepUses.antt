-- What the lines of steps blocks use, each with the number of its word in the line.
-- Source: this program's own.
use Rattle.std.specs.Prelude.{◌≡◌, ℕ, ◌+◌, List, [], ◌∷◌, ◌++◌, Contains, flat_map, length, Some}
use Rattle.widl_idl.specs.DefinitionTerms.{DefsTerm}
use Rattle.widl_lines.specs.TextBreaks.{Line}
use Rattle.widl_script_tree.specs.declared.steps.Invoke.{Invoke}
use Rattle.widl_script_tree.specs.declared.steps.Source.{Source}
use Rattle.widl_script_tree.specs.declared.steps.Source.TheVariants as source
use Rattle.widl_script_tree.specs.declared.steps.StepLine.{StepLine}
use Rattle.widl_script_tree.specs.declared.steps.StepLine.TheVariants as step
use Rattle.widl_script_tree.specs.declared.steps.Target.{Target}
use Rattle.widl_script_words.specs.Signs.{SpellsLine}
use Rattle.widl_script_words.specs.SpelledSteps.{source_signs, step_signs}
use Rattle.widl_script_rules.specs.Standings.{Standing}
use Rattle.widl_script_rules.specs.Targets.{Overload, Opens, overload_of}

-- a source, the number of its first word, and its number in its list of sources
pub record Used : Type 0 where
  pub word : ℕ
  pub source : Source
  pub number : ℕ

-- how many words a source has
abbrev pub source_words : Source → ℕ
source_words s = length (source_signs s)

-- sources with commas between, from this word and this number on
abbrev pub used_from : ℕ → ℕ → List Source → List Used
used_from word number [] = []
used_from word number (s ∷ sources) = record { word = word; source = s; number = number } ∷ used_from (word + source_words s + 1) (number + 1) sources

abbrev pub used_alone : ℕ → Source → List Used
used_alone word s = record { word = word; source = s; number = 0 } ∷ []

-- a call of a callback: the number of its word `invoke`, and the call
pub record Invoked : Type 0 where
  pub word : ℕ
  pub call : Invoke

abbrev pub invoked_in : StepLine → List Invoked
invoked_in (step.Invoke i) = record { word = 0; call = i } ∷ []
invoked_in (step.ReturnInvoke i) = record { word = 1; call = i } ∷ []
invoked_in line = []

-- its sources stand behind `invoke arg K (`
abbrev pub used_by : Invoked → List Used
used_by i = used_from (i.word + 4) 0 i.call.sources

-- the sources of a step line
abbrev pub used_in : StepLine → List Used
used_in (step.Return s) = used_alone 1 s
used_in (step.SetSlot slot s) = used_alone 3 s
used_in (step.Append key s) = used_alone 1 key ++ used_alone (1 + source_words key) s
used_in step.Clear = []
used_in (step.Throw v) = []
used_in (step.Invoke i) = flat_map used_by (invoked_in (step.Invoke i))
used_in (step.ReturnInvoke i) = flat_map used_by (invoked_in (step.ReturnInvoke i))

-- a step line of a block whose target is there
pub record IsStep (list : DefsTerm) (script : List Standing) (overload : Overload) (line : Line) (step : StepLine) : Type 0 where
  pub standing : Standing
  pub listed : Contains script standing
  pub is_line : standing.line ≡ line
  pub opening : Line
  pub outer : List Line
  pub around : standing.around ≡ opening ∷ outer
  pub target : Target
  pub opens : Opens opening target
  pub there : overload_of list target ≡ Some overload
  pub spelled : SpellsLine (step_signs step) line.words
