-- For proofs and contracts alone; no step names these words. What a suspended call still does: the dialog of each thing that it is made of.
use Rattle.std.specs.Prelude.{ℕ, ◌+◌, List, [], ◌∷◌, Option, Some, None}
use Rattle.widl_dialog.specs.Dialog.{End, Say, Steps, bind}
use Rattle.widl_dialog.specs.Position.{At}
use Rattle.widl_dialog.specs.Rename.{rename}
use Rattle.widl_idl.specs.declared.callee.Callee.{Callee}
use Rattle.widl_idl.specs.DefinitionTerms.{DefsTerm}
use Rattle.widl_idl.specs.Terms.{TypeTerm}
use Rattle.widl_value.specs.declared.value.Value.{Value}
use Rattle.widl_value.specs.declared.value.Value.TheVariants as values
use Rattle.widl_value.specs.IdlTerms.{IdlTerm, idl_term}
use Rattle.widl_scalar.specs.Primitives.{length_of}
use Rattle.widl_store.specs.declared.inner.Builtin.{Builtin}
use Rattle.widl_store.specs.declared.inner.Builtin.TheVariants as builtins
use Rattle.widl_script_tree.specs.declared.steps.StepLine.{StepLine}
use Rattle.widl_steps.specs.declared.want.Want.TheVariants as wants
use Rattle.widl_steps.specs.AskTerms.{AnswerTerm, Fits, ask_term}
use Rattle.widl_steps.specs.Tasks.{TaskEnd, Convert, Resolve, Scalar, Out}
use Rattle.widl_steps.specs.Words.{done, normal, number}
use Rattle.widl_steps.specs.ArrayFunctions.{given_in_turn, with_length}
use Rattle.widl_steps.specs.BuiltCalls.{calls_built_today}
use Rattle.widl_steps.specs.CallRules.{call_rule}
use Rattle.widl_steps.specs.CallTasks.{CallTask, Of, Function, CallTalk}
use Rattle.widl_steps.specs.DefaultResults.{default_result}
use Rattle.widl_steps.specs.Nullables.{inner_type}
use Rattle.widl_steps.specs.ObjectFunctions.{by_kind, with_tag}
use Rattle.widl_steps.specs.Operations.{StepsOf, chosen, result, result_type}
use Rattle.widl_steps.specs.StepLines.{line, lines}
use Rattle.widl_convert.specs.declared.moves.Ending.{Ending}
use Rattle.widl_convert.specs.Frames.{end_of}
use Rattle.widl_convert.specs.Loads.{given_load, load, object_load}
use Rattle.widl_convert.specs.Stack.{rest, quiet}
use Rattle.widl_calls.specs.declared.array_turns.ArrayTurn.{ArrayTurn}
use Rattle.widl_calls.specs.declared.frames.CallFrame.{CallFrame}
use Rattle.widl_calls.specs.declared.frames.CallFrame.TheVariants as frames
use Rattle.widl_calls.specs.declared.jobs.CallJob.{CallJob}
use Rattle.widl_calls.specs.declared.jobs.CallJob.TheVariants as jobs
use Rattle.widl_calls.specs.declared.moves.CallMove.{CallMove}
use Rattle.widl_calls.specs.declared.moves.CallMove.TheVariants as moves
use Rattle.widl_calls.specs.declared.overload.Overload.{Overload}
use Rattle.widl_calls.specs.declared.waits.CallWait.{CallWait}
use Rattle.widl_calls.specs.declared.waits.CallWait.TheVariants as waits
use Rattle.widl_calls.specs.ArrayWaits.{array_after, array_patience, cursor_load, moved_load}
use Rattle.widl_calls.specs.HeldValues.{held}

-- 1. Tasks

abbrev pub type_for : DefsTerm → Overload → TypeTerm
type_for list o = result_type list o.callee o.number

abbrev pub lines_in : DefsTerm → StepsOf → Overload → List StepLine
lines_in list steps o = steps o.callee o.number

abbrev pub call_job_of : DefsTerm → StepsOf → CallJob → CallTask
call_job_of list steps (jobs.Function f what this args construct) = Function f what this args.values construct
call_job_of list steps (jobs.Resolve callee args) = Of (Resolve callee args.values)
call_job_of list steps (jobs.OfUndefined o) = Of (Convert (inner_type (type_for list o)) values.Undefined)
call_job_of list steps (jobs.Out o value) = Of (Out (type_for list o) (idl_term value))
call_job_of list steps (jobs.ToLength v) = Of (Scalar wants.Length v)

-- 2. What comes after the end of a task

-- a turn goes on with the length of its array
abbrev pub length_to : ArrayTurn → TaskEnd → CallTalk
length_to t = given_in_turn t.iterator t.next (number (λ n. with_length t.iterator t.of t.next (length_of n)))

abbrev pub call_returned_to : DefsTerm → StepsOf → CallFrame → TaskEnd → CallTalk
call_returned_to list steps (frames.Chosen callee) = chosen list steps callee
call_returned_to list steps (frames.Result o) = result (type_for list o)
call_returned_to list steps (frames.Length t) = length_to t

-- 3. What comes after an answer

-- after the unit of the first line
abbrev pub first_line : DefsTerm → TypeTerm → List IdlTerm → List StepLine → CallTalk
first_line list t ws [] = default_result list t
first_line list t ws (l ∷ more) = line t ws l

-- how steps end; without an end, with the dictionary that undefined is converted to
abbrev pub ended_or_dictionary : TypeTerm → Option Ending → CallTalk
ended_or_dictionary t (Some ending) = End (end_of ending)
ended_or_dictionary t None = Steps (Of (Convert (inner_type t) values.Undefined)) End

abbrev pub call_after : DefsTerm → StepsOf → CallWait → AnswerTerm → CallTalk
call_after list steps (waits.Inside i) = λ a. rename Of (rest list i.asker.value a)
call_after list steps (waits.Noted o read) = done (bind (lines list (type_for list o) (held read) (lines_in list steps o)) (result (type_for list o)))
call_after list steps (waits.Line o read) = done (bind (first_line list (type_for list o) (held read) (lines_in list steps o)) (result (type_for list o)))
call_after list steps (waits.Tag o) = normal (with_tag o)
call_after list steps waits.Kind = by_kind
call_after list steps (waits.Array w) = array_after w

-- 4. Moves

abbrev pub call_dialog : DefsTerm → StepsOf → CallMove → CallTalk
call_dialog list steps (moves.Asks p) = Say (ask_term p.ask) (call_after list steps p.wait)
call_dialog list steps (moves.Gives r) = End (end_of r)
call_dialog list steps (moves.Steps f j) = Steps (call_job_of list steps j) (call_returned_to list steps f)
call_dialog list steps (moves.Goes j) = Steps (call_job_of list steps j) End

-- tasks alone lead from the one place to the other
abbrev pub CallLeads : DefsTerm → StepsOf → CallTalk → CallTalk → Type 0
CallLeads list steps d e = At (call_rule calls_built_today list steps) Fits d [] e

-- 5. How many moves without a charge are left, at most

-- a conversion within a call
abbrev pub inner_load : ℕ → ℕ
inner_load n = 1 + n

-- a frame for the choice of an overload, and one for a result, which goes to the script
abbrev pub chosen_load : ℕ
chosen_load = 1

abbrev pub result_load : ℕ
result_load = 3 + object_load

-- one for the length of an array, with which an iterator may end
abbrev pub length_load : ℕ
length_load = 1 + moved_load

abbrev pub call_frame_load : CallFrame → ℕ
call_frame_load (frames.Chosen callee) = chosen_load
call_frame_load (frames.Result o) = result_load
call_frame_load (frames.Length t) = length_load

abbrev pub operation_load : DefsTerm → Callee → List Value → ℕ
operation_load list callee args = 1 + chosen_load + inner_load (load list (Resolve callee args))

abbrev pub function_load : DefsTerm → Builtin → List Value → ℕ
function_load list (builtins.Intrinsic number) args = cursor_load
function_load list (builtins.Callee callee) args = operation_load list callee args
function_load list (builtins.InterfaceObject iface) args = 0
function_load list (builtins.Pairs iface what) args = 0

-- what a task does before a charge
abbrev pub job_load : DefsTerm → CallJob → ℕ
job_load list (jobs.Function f what this args construct) = function_load list what args.values
job_load list (jobs.Resolve callee args) = inner_load (load list (Resolve callee args.values))
job_load list (jobs.OfUndefined o) = inner_load (load list (Convert (inner_type (type_for list o)) values.Undefined))
job_load list (jobs.Out o value) = inner_load (load list (Out (type_for list o) (idl_term value)))
job_load list (jobs.ToLength v) = inner_load (load list (Scalar wants.Length v))

-- what a wait does after the answer to an ask that takes no charge
abbrev pub call_patience : DefsTerm → CallWait → ℕ
call_patience list (waits.Inside i) = inner_load (quiet list i.asker.value)
call_patience list (waits.Noted o read) = 0
call_patience list (waits.Line o read) = 0
call_patience list (waits.Tag o) = 0
call_patience list waits.Kind = 1
call_patience list (waits.Array w) = array_patience w

abbrev pub call_weight : DefsTerm → CallMove → ℕ
call_weight list (moves.Asks p) = call_patience list p.wait
call_weight list (moves.Gives r) = given_load (end_of r)
call_weight list (moves.Steps f j) = 1 + call_frame_load f + job_load list j
call_weight list (moves.Goes j) = 1 + job_load list j
