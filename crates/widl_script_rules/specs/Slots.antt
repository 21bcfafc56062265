-- Which slots step lines may name.
-- Source: this program's own; attributes are those of Web IDL.
use Rattle.std.specs.Prelude.{ℕ, ◌+◌, List, [], ◌∷◌, ◌++◌, Contains, find, flat_map, bytes_eq, Option, is_some, if◌then◌else◌}
use Rattle.widl_idl.specs.DefinitionTerms.{AttrTerm, DefsTerm}
use Rattle.widl_lines.specs.declared.script_place.ScriptPlace.{ScriptPlace}
use Rattle.widl_lines.specs.TextBreaks.{Line}
use Rattle.widl_script_tree.specs.declared.steps.Source.{Source}
use Rattle.widl_script_tree.specs.declared.steps.Source.TheVariants as source
use Rattle.widl_script_tree.specs.declared.steps.StepLine.{StepLine}
use Rattle.widl_script_tree.specs.declared.steps.StepLine.TheVariants as step
use Rattle.widl_script_tree.specs.Trees.{Text}
use Rattle.widl_script_rules.specs.Standings.{Standing, IsAtWord}
use Rattle.widl_script_rules.specs.Targets.{Overload}
use Rattle.widl_script_rules.specs.StepUses.{Used, IsStep, used_in}

-- the attribute of a namespace's operation that `slot A` stands for: one of the same namespace
abbrev pub attribute_named : Overload → Text → Option AttrTerm
attribute_named o text = find (λ (a : AttrTerm). bytes_eq text a.name) o.space.members.attrs

-- the word, where it names no such attribute
abbrev pub lost_slot : Overload → ℕ → Text → List ℕ
lost_slot o word text = if is_some (attribute_named o text) then [] else word ∷ []

-- in a source that begins with this word the name stands behind `slot`
abbrev pub lost_source_slot : Overload → ℕ → Source → List ℕ
lost_source_slot o word (source.Slot text) = lost_slot o (word + 1) text
lost_source_slot o word s = []

abbrev pub lost_slot_by : Overload → Used → List ℕ
lost_slot_by o u = lost_source_slot o u.word u.source

-- the slot that a line sets
abbrev pub lost_set_slot : Overload → StepLine → List ℕ
lost_set_slot o (step.SetSlot text s) = lost_slot o 1 text
lost_set_slot o line = []

-- the names of slots in a line that are no attributes
abbrev pub lost_slots : Overload → StepLine → List ℕ
lost_slots o line = lost_set_slot o line ++ flat_map (lost_slot_by o) (used_in line)

-- rule 12: a slot is that of no attribute of the namespace: at the name
pub record LacksSlot (list : DefsTerm) (script : List Standing) (place : ScriptPlace) : Type 0 where
  pub overload : Overload
  pub line : Line
  pub step : StepLine
  pub is_step : IsStep list script overload line step
  pub word : ℕ
  pub lost : Contains (lost_slots overload step) word
  pub at : IsAtWord 12 line word place
