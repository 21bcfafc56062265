-- Steps blocks: which lines are those of an operation's overload, what a line does, and the result where no line returns.
-- Source: this program's own.
use Rattle.std.specs.Prelude.{ℕ, Bool, true, false, not, ◌&&◌, nat_eq, bytes_eq, if◌then◌else◌, List, [], ◌∷◌, slice_get, Option, None, Some}
use Rattle.widl_dialog.specs.Dialog.{End, Say, Steps}
use Rattle.widl_idl.specs.DefinitionTerms.{DefsTerm}
use Rattle.widl_idl.specs.Terms.{TypeTerm}
use Rattle.widl_value.specs.IdlTerms.{IdlTerm, MissingValue}
use Rattle.widl_script_tree.specs.declared.steps.Source.{Source}
use Rattle.widl_script_tree.specs.declared.steps.Source.TheVariants as sources
use Rattle.widl_script_tree.specs.declared.steps.StepLine.{StepLine}
use Rattle.widl_script_tree.specs.declared.steps.StepLine.TheVariants as steps
use Rattle.widl_script_tree.specs.declared.steps.Target.{Target}
use Rattle.widl_script_tree.specs.declared.steps.Target.TheVariants as targets
use Rattle.widl_script_tree.specs.Trees.{Text, StatementTrees, no_statements, then_more, StepsT}
use Rattle.widl_trace.specs.declared.code.Code.TheVariants as code
use Rattle.widl_steps.specs.AskTerms.{UnitAsk}
use Rattle.widl_steps.specs.Tasks.{Default, Rethrow}
use Rattle.widl_steps.specs.Words.{done, gives, fails, not_built}
use Rattle.widl_steps.specs.CallTasks.{Of, CallTalk}
use Rattle.widl_steps.specs.DefaultResults.{default_result}

-- 1. The block of an overload

-- an overload of an operation, by the names of the script
pub record Operation : Type 0 where
  pub owner : Text
  pub name : Text
  pub fixed : Bool
  pub overload : ℕ

abbrev pub is_same : Bool → Bool → Bool
is_same true b = b
is_same false b = not b

abbrev pub is_target : Operation → Target → Bool
is_target o (targets.Operation owner name fixed overload) = bytes_eq owner o.owner && bytes_eq name o.name && is_same fixed o.fixed && nat_eq overload o.overload
is_target o _ = false

-- where there is no block, there are no lines
abbrev pub lines_for : Operation → StatementTrees → List StepLine
lines_for o no_statements = []
lines_for o (then_more (StepsT target lines) more) = if is_target o target then lines else lines_for o more
lines_for o (then_more s more) = lines_for o more

-- 2. A line, by the values of the arguments

-- `return arg K`: an argument that is missing has no value
abbrev pub argument_value : Option IdlTerm → CallTalk
argument_value None = fails code.NoValue
argument_value (Some MissingValue) = fails code.NoValue
argument_value (Some w) = gives w

-- `this` and slots have no steps yet
abbrev pub return_line : TypeTerm → List IdlTerm → Source → CallTalk
return_line t ws (sources.Arg number) = argument_value (slice_get ws number)
return_line t ws (sources.Literal literal) = Steps (Of (Default t (Some literal))) End
return_line t ws _ = not_built

-- `return SRC` ends with the value of the source, `throw E` throws the value. The other lines have no steps yet.
abbrev pub line : TypeTerm → List IdlTerm → StepLine → CallTalk
line t ws (steps.Return source) = return_line t ws source
line t ws (steps.Throw v) = End (Rethrow v)
line t ws _ = not_built

-- 3. The lines in order, a unit for each, for a result of a type. Each line that has steps ends them.

abbrev pub lines : DefsTerm → TypeTerm → List IdlTerm → List StepLine → CallTalk
lines list t ws [] = default_result list t
lines list t ws (l ∷ more) = Say UnitAsk (done (line t ws l))
