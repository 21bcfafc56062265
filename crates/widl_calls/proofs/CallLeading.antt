-- Facts of a move that may be kept back by want of memory.
use Rattle.std.proofs.Common.{◌≡◌, ◌<◌, Bool, sym, arith}
use Rattle.std.specs.Prelude.{List, Result, Ok, Err, IfOk}
use Rattle.std.specs.declared.alloc.AllocError.{AllocError}
use Rattle.widl_dialog.proofs.Positions.{here}
use Rattle.widl_idl.specs.DefinitionTerms.{DefsTerm}
use Rattle.widl_value.specs.declared.object.ObjRef.{ObjRef}
use Rattle.widl_value.specs.declared.value.Value.{Value}
use Rattle.widl_store.specs.declared.inner.Builtin.{Builtin}
use Rattle.widl_steps.specs.declared.ask.Look.TheVariants as looks
use Rattle.widl_steps.specs.AskTerms.{Fits, IsFree, OfLook}
use Rattle.widl_steps.specs.BuiltCalls.{calls_built_today}
use Rattle.widl_steps.specs.CallRules.{call_rule}
use Rattle.widl_steps.specs.CallTasks.{Function}
use Rattle.widl_steps.specs.Operations.{StepsOf}
use Rattle.widl_calls.specs.declared.array_turns.ArrayWait.{ArrayWait}
use Rattle.widl_calls.specs.declared.moves.CallMove.{CallMove}
use Rattle.widl_calls.specs.ArrayWaits.{array_kind_for, array_patience}
use Rattle.widl_calls.specs.Frames.{CallLeads, call_dialog, call_weight}

-- a function's first move is what its task leads to
pub function_leads : (list : DefsTerm) (steps : StepsOf) (f : ObjRef) (what : Builtin) (this : Value) (args : List Value) (construct : Bool) (r : Result CallMove AllocError) → IfOk r (λ m. (steps : StepsOf) (f : ObjRef) (construct : Bool) → call_dialog list steps m ≡ call_rule calls_built_today list steps (Function f what this args construct)) → IfOk r (λ m. CallLeads list steps (call_rule calls_built_today list steps (Function f what this args construct)) (call_dialog list steps m))
function_leads list steps f what this args construct (Ok m) x = here (call_rule calls_built_today list steps) Fits (sym (x steps f construct))
function_leads list steps f what this args construct (Err e) x = tt

-- after the kind of an object nothing is left
pub none_left : (list : DefsTerm) (r : Result CallMove AllocError) → IfOk r (λ m. (list : DefsTerm) → call_weight list m ≡ 0) → IfOk r (λ m. IsFree (OfLook looks.Kind) → call_weight list m < 1)
none_left list (Ok m) x = λ free. omega (arith, x list)
none_left list (Err e) x = tt

-- after an answer in a function of arrays less is left
pub less_after : (list : DefsTerm) (w : ArrayWait) (r : Result CallMove AllocError) → IfOk r (λ m. (list : DefsTerm) → IsFree (array_kind_for w) → call_weight list m < array_patience w) → IfOk r (λ m. IsFree (array_kind_for w) → call_weight list m < array_patience w)
less_after list w (Ok m) x = x list
less_after list w (Err e) x = tt
