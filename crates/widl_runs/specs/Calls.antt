-- Calls: what is done where a value is called or constructs, in the order in which it is done.
-- Source: ECMA-262, Call, PrepareForOrdinaryCall, OrdinaryCallBindThis, OrdinaryCallEvaluateBody, Construct; the lines, the depth and the ends of the
-- profile are this program's own.
use Rattle.std.specs.Prelude.{ℕ, false, List, [], slice_index_or}
use Rattle.widl_dialog.specs.Dialog.{End, Say, Steps}
use Rattle.widl_value.specs.declared.object.ObjRef.{ObjRef}
use Rattle.widl_value.specs.declared.object.Shape.{Shape}
use Rattle.widl_value.specs.declared.object.Shape.TheVariants as shapes
use Rattle.widl_value.specs.declared.value.Value.{Value}
use Rattle.widl_value.specs.declared.value.Value.TheVariants as values
use Rattle.widl_store.specs.declared.inner.Builtin.TheVariants as builtins
use Rattle.widl_script_tree.specs.Trees.{no_statements, FunctionTree, ScriptTree}
use Rattle.widl_trace.specs.declared.code.Code.TheVariants as code
use Rattle.widl_trace.specs.EventTerms.{EventTerm, CallEvent, NewEvent, ReturnEvent, ThrowEvent}
use Rattle.widl_steps.specs.Tasks.{TaskEnd, Gives, Plain, Picks, Throw, Rethrow, Profile}
use Rattle.widl_steps.specs.CallTasks.{Function}
use Rattle.widl_runs.specs.Ends.{JobEnd, Normal, Returned, Thrown, task_end_in}
use Rattle.widl_runs.specs.Worlds.{function_context, builtin_context}
use Rattle.widl_runs.specs.Actions.{Write, TestDepth, Enter, Leave, FindBody, body_in, Body, ScriptBody, BuiltinBody, NoBody}
use Rattle.widl_runs.specs.Jobs.{Program, RunStatements, Talk, Fail, Doing, fails, reaches, not_yet_end}

-- 1. A call opens. A value that can't be called throws a TypeError, without a line. Where as many calls are open as may be, the run stops. Else the
-- line `call` is written, and the body follows.

abbrev pub if_callable : (ObjRef → Doing) → ObjRef → Shape → Doing
if_callable k object shapes.Callable = k object
if_callable k object _ = fails code.NotCallable

-- goes on with an object that can be called; anything else throws a TypeError
abbrev pub callable : (ObjRef → Doing) → Value → Doing
callable k (values.Obj object) = if_callable k object object.shape
callable k _ = fails code.NotCallable

abbrev pub opens : Value → Value → List Value → (ObjRef → Body → Doing) → Doing
opens f this args does =
    callable
    (λ object. Say (FindBody object) (λ found. Say TestDepth (λ _. Say (Write (CallEvent object this args)) (λ _. does object (body_in found)))))
    f

-- 2. The body is done in a context of its own, and the call goes on with its end. The context of a function of the script has its parameters and
-- `this`. The steps of a function that isn't written in the script are a conversation.

-- a function by its number; where the script has none, one that does nothing
abbrev pub function_in : ScriptTree → ℕ → FunctionTree
function_in script number = slice_index_or script.functions number (record { name = []; params = []; names = []; body = no_statements })

-- What a conversation has come to: its value is returned, a new error or what was thrown before is thrown, and the run stops at an end of the
-- profile. The cases `Gives` and `Picks` are never met: the conversation of a function ends with a value of the script.
abbrev pub by_talk : (JobEnd → Doing) → TaskEnd → Doing
by_talk ends (Gives w) = ends (Returned values.Undefined)
by_talk ends (Plain v) = ends (Returned v)
by_talk ends (Picks overload ws) = ends (Returned values.Undefined)
by_talk ends (Throw reason) = Steps (Fail reason) ends
by_talk ends (Rethrow v) = ends (Thrown v)
by_talk ends (Profile end) = reaches end

abbrev pub body : Program → ObjRef → Value → List Value → (JobEnd → Doing) → Body → Doing
body p f this args ends (ScriptBody number) =
    let function = function_in p.script number in
    Say (Enter (function_context function this args)) (λ _. Steps (RunStatements function.body) ends)
body p f this args ends (BuiltinBody function) =
    Say (Enter (builtin_context this)) (λ _. Steps (Talk (Function f function this args false)) (λ end. by_talk ends (task_end_in end)))
body p f this args ends NoBody = reaches not_yet_end

-- 3. A call closes. The line `ret` or `thr` is written, and the context is left. Where the run was stopped in the body, there is no such line.

-- A body that ends without `return` gives undefined. The last case is never met: no body ends as a conversation or a look does.
abbrev pub end_line : JobEnd → EventTerm
end_line (Normal v) = ReturnEvent values.Undefined
end_line (Returned v) = ReturnEvent v
end_line (Thrown v) = ThrowEvent v
end_line _ = ReturnEvent values.Undefined

abbrev pub call_result : JobEnd → JobEnd
call_result (Normal v) = Normal values.Undefined
call_result (Returned v) = Normal v
call_result (Thrown v) = Thrown v
call_result _ = Normal values.Undefined

abbrev pub closes : JobEnd → Doing
closes end = Say (Write (end_line end)) (λ _. Say Leave (λ _. End (call_result end)))

-- 4. A whole call

abbrev pub call : Program → Value → Value → List Value → Doing
call p f this args = opens f this args (λ object found. body p object this args closes found)

-- 5. A construction. Only an interface object constructs; `new` of any other value throws a TypeError, without a line. What it constructs isn't
-- defined yet: the run stops after the line of the construction.

abbrev pub construct_body : ObjRef → List Value → Body → Doing
construct_body f args (BuiltinBody (builtins.InterfaceObject iface)) = Say TestDepth (λ _. Say (Write (NewEvent f args)) (λ _. reaches not_yet_end))
construct_body f args _ = fails code.NoConstructor

abbrev pub construct : Value → List Value → Doing
construct (values.Obj f) args = Say (FindBody f) (λ found. construct_body f args (body_in found))
construct _ args = fails code.NoConstructor
