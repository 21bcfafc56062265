-- Which arguments step lines may name, and where they may say `this`.
-- Source: this program's own; arguments are those of Web IDL.
use Rattle.std.specs.Prelude.{ℕ, ◌+◌, Bool, true, false, not, List, [], ◌∷◌, ◌++◌, Contains, flat_map, Option, Some, None, is_some, slice_get, if◌then◌else◌}
use Rattle.std.specs.Option.{option_and_then}
use Rattle.widl_idl.specs.declared.argument.Optionality.{Optionality}
use Rattle.widl_idl.specs.declared.argument.Optionality.TheVariants as optionality
use Rattle.widl_idl.specs.DefinitionTerms.{ArgTerm, DefsTerm}
use Rattle.widl_lines.specs.declared.script_place.ScriptPlace.{ScriptPlace}
use Rattle.widl_lines.specs.TextBreaks.{Line}
use Rattle.widl_script_tree.specs.declared.steps.Source.{Source}
use Rattle.widl_script_tree.specs.declared.steps.Source.TheVariants as source
use Rattle.widl_script_tree.specs.declared.steps.StepLine.{StepLine}
use Rattle.widl_script_rules.specs.Standings.{Standing, IsAtWord}
use Rattle.widl_script_rules.specs.Targets.{Overload}
use Rattle.widl_script_rules.specs.StepUses.{Used, Invoked, IsStep, invoked_in, used_in}

abbrev pub is_variadic : Optionality → Bool
is_variadic optionality.Variadic = true
is_variadic o = false

-- the argument of a number
abbrev pub argument_of : Overload → ℕ → Option ArgTerm
argument_of o k = slice_get o.signature.args k

abbrev pub alone : ArgTerm → Option ArgTerm
alone a = if is_variadic a.opt then None else Some a

-- the argument that `arg K` stands for: one that is declared and takes one value
abbrev pub argument_named : Overload → ℕ → Option ArgTerm
argument_named o k = option_and_then alone (argument_of o k)

-- whether there is no such argument
abbrev pub is_lost : Overload → ℕ → Bool
is_lost o k = not (is_some (argument_named o k))

-- where a source that begins with this word names what isn't there. A namespace has no `this`
abbrev pub lost_source : Overload → ℕ → Source → List ℕ
lost_source o word (source.Arg k) = if is_lost o k then word ∷ [] else []
lost_source o word source.This = word ∷ []
lost_source o word (source.Slot text) = []
lost_source o word (source.Literal l) = []

abbrev pub lost_by : Overload → Used → List ℕ
lost_by o u = lost_source o u.word u.source

abbrev pub lost_call : Overload → Invoked → List ℕ
lost_call o i = if is_lost o i.call.arg then (i.word + 1) ∷ [] else []

-- the words `arg` and `this` of a line that name what isn't there
abbrev pub lost_words : Overload → StepLine → List ℕ
lost_words o line = flat_map (lost_call o) (invoked_in line) ++ flat_map (lost_by o) (used_in line)

-- rule 11: an argument that isn't declared or is variadic, or `this` in a namespace: at `arg` or `this`
pub record LacksArgument (list : DefsTerm) (script : List Standing) (place : ScriptPlace) : Type 0 where
  pub overload : Overload
  pub line : Line
  pub step : StepLine
  pub is_step : IsStep list script overload line step
  pub word : ℕ
  pub lost : Contains (lost_words overload step) word
  pub at : IsAtWord 11 line word place
