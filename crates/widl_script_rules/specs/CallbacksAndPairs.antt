-- Which callbacks step lines may call, with how many sources, and where they may change a list of pairs.
-- Source: this program's own; callbacks and their arguments are those of Web IDL.
use Rattle.std.specs.Prelude.{ℕ, nat_le, Bool, true, false, ◌&&◌, ◌||◌, List, [], ◌∷◌, ◌++◌, Contains, count_by, flat_map, length, Option, Some, None, slice_get, if◌then◌else◌}
use Rattle.std.specs.List.{list_any}
use Rattle.std.specs.Option.{option_and_then}
use Rattle.widl_idl.specs.declared.argument.Optionality.{Optionality}
use Rattle.widl_idl.specs.declared.argument.Optionality.TheVariants as optionality
use Rattle.widl_idl.specs.DefinitionTerms.{ArgTerm, CallbackTerm, DefsTerm}
use Rattle.widl_idl.specs.Terms.{TypeTerm, CallbackFunctionType, CallbackInterfaceType}
use Rattle.widl_lines.specs.declared.script_place.ScriptPlace.{ScriptPlace}
use Rattle.widl_lines.specs.TextBreaks.{Line}
use Rattle.widl_script_tree.specs.declared.steps.StepLine.{StepLine}
use Rattle.widl_script_tree.specs.declared.steps.StepLine.TheVariants as step
use Rattle.widl_script_rules.specs.Standings.{Standing, IsAtWord}
use Rattle.widl_script_rules.specs.Targets.{Overload}
use Rattle.widl_script_rules.specs.StepUses.{Invoked, IsStep, invoked_in}
use Rattle.widl_script_rules.specs.Arguments.{argument_of, is_variadic}

-- the callback function or callback interface that a type is itself; a nullable one is none
abbrev pub callback_of : DefsTerm → TypeTerm → Option CallbackTerm
callback_of list (CallbackFunctionType n) = slice_get list.callback_fns n
callback_of list (CallbackInterfaceType n) = slice_get list.callback_ifaces n
callback_of list t = None

-- what is called, where the argument is a callback; a variadic argument by the type of its values
abbrev pub callback_called : DefsTerm → Overload → Invoked → Option CallbackTerm
callback_called list o i = option_and_then (λ (a : ArgTerm). callback_of list a.ty) (argument_of o i.call.arg)

abbrev pub is_required : Optionality → Bool
is_required optionality.Required = true
is_required o = false

-- so many sources are enough for the required arguments, and no more than there are arguments, unless the last takes any number
abbrev pub takes : List ArgTerm → ℕ → Bool
takes args count = nat_le (count_by (λ (a : ArgTerm). is_required a.opt) args) count && (nat_le count (length args) || list_any (λ (a : ArgTerm). is_variadic a.opt) args)

abbrev pub takes_call : Option CallbackTerm → ℕ → Bool
takes_call None count = false
takes_call (Some c) count = takes c.sig.args count

-- where the argument is declared and is no callback that takes the sources
abbrev pub refused_word : DefsTerm → Invoked → Option ArgTerm → List ℕ
refused_word list i None = []
refused_word list i (Some a) = if takes_call (callback_of list a.ty) (length i.call.sources) then [] else i.word ∷ []

abbrev pub refused_call : DefsTerm → Overload → Invoked → List ℕ
refused_call list o i = refused_word list i (argument_of o i.call.arg)

-- a namespace has no list of pairs
abbrev pub pair_words : StepLine → List ℕ
pair_words (step.Append key s) = 0 ∷ []
pair_words step.Clear = 0 ∷ []
pair_words line = []

abbrev pub refused_words : DefsTerm → Overload → StepLine → List ℕ
refused_words list o line = pair_words line ++ flat_map (refused_call list o) (invoked_in line)

-- rule 14: `append` or `clear` in a namespace, a call of what is no callback or doesn't take so many sources: at `append`, `clear` or `invoke`
pub record RefusesStep (list : DefsTerm) (script : List Standing) (place : ScriptPlace) : Type 0 where
  pub overload : Overload
  pub line : Line
  pub step : StepLine
  pub is_step : IsStep list script overload line step
  pub word : ℕ
  pub refused : Contains (refused_words list overload step) word
  pub at : IsAtWord 14 line word place
