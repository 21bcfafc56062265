-- For proofs and contracts alone; no step names these words. Where the machine stops in a call: what is still done of it after each of its actions.
use Rattle.std.specs.Prelude.{false, List}
use Rattle.widl_dialog.specs.Dialog.{Say, Steps}
use Rattle.widl_value.specs.declared.object.ObjRef.{ObjRef}
use Rattle.widl_value.specs.declared.value.Value.{Value}
use Rattle.widl_store.specs.declared.inner.Builtin.{Builtin}
use Rattle.widl_script_tree.specs.Trees.{FunctionTree}
use Rattle.widl_trace.specs.EventTerms.{CallEvent, NewEvent}
use Rattle.widl_steps.specs.CallTasks.{Function}
use Rattle.widl_runs.specs.Ends.{JobEnd, task_end_in}
use Rattle.widl_runs.specs.Actions.{Write, TestDepth, Reply, body_in, Body}
use Rattle.widl_runs.specs.Jobs.{Program, RunStatements, Talk, Doing, reaches, not_yet_end}
use Rattle.widl_runs.specs.Calls.{body, by_talk, closes, construct_body}

-- 1. A call opens

abbrev pub call_line : Program → ObjRef → Value → List Value → Body → Reply → Doing
call_line p f this args b r = Say (Write (CallEvent f this args)) (λ _. body p f this args closes b)

abbrev pub found_body : Program → ObjRef → Value → List Value → Reply → Doing
found_body p f this args r = Say TestDepth (call_line p f this args (body_in r))

-- 2. Its context is entered

abbrev pub begins_function : FunctionTree → Reply → Doing
begins_function f r = Steps (RunStatements f.body) closes

abbrev pub talked : JobEnd → Doing
talked end = by_talk closes (task_end_in end)

abbrev pub begins_builtin : ObjRef → Builtin → Value → List Value → Reply → Doing
begins_builtin f function this args r = Steps (Talk (Function f function this args false)) talked

-- 3. A construction

abbrev pub new_line : ObjRef → List Value → Reply → Doing
new_line f args r = Say (Write (NewEvent f args)) (λ _. reaches not_yet_end)

abbrev pub found_constructor : ObjRef → List Value → Reply → Doing
found_constructor f args r = construct_body f args (body_in r)
