-- For proofs and contracts alone; no step names these words. What ties a suspended call to the talks of its task.
use Rattle.std.specs.Prelude.{◌≡◌, ℕ, ◌+◌, ◌≤◌, ◌<◌, List, [], ◌∷◌, Option, Some, None}
use Rattle.widl_dialog.specs.Conversation.{Next, Asks, Ends}
use Rattle.widl_dialog.specs.Dialog.{End, Say, bind}
use Rattle.widl_dialog.specs.Position.{At}
use Rattle.widl_dialog.specs.Stack.{under, stack_load, still}
use Rattle.widl_idl.specs.DefinitionTerms.{DefsTerm}
use Rattle.widl_store.specs.declared.inner.Builtin.{Builtin}
use Rattle.widl_store.specs.declared.inner.Builtin.TheVariants as builtins
use Rattle.widl_steps.specs.AskTerms.{AskTerm, AskKind, AnswerTerm, BeginAnswer, Fits, IsFree, IsWanted, ask_term, kind_of}
use Rattle.widl_steps.specs.Laws.{Said, IsNext}
use Rattle.widl_steps.specs.Tasks.{TaskEnd}
use Rattle.widl_steps.specs.Words.{not_built}
use Rattle.widl_steps.specs.BuiltCalls.{calls_built_today}
use Rattle.widl_steps.specs.CallRules.{call_rule}
use Rattle.widl_steps.specs.CallTasks.{CallTask, CallTalk}
use Rattle.widl_steps.specs.Operations.{StepsOf}
use Rattle.widl_convert.specs.declared.outcome.Next.{Next as NextAnswer}
use Rattle.widl_convert.specs.declared.outcome.Next.TheVariants as next
use Rattle.widl_convert.specs.Frames.{end_of}
use Rattle.widl_convert.specs.Stack.{kind_of_last, next_said}
use Rattle.widl_calls.specs.declared.call_asker.CallAsker.{CallAsker}
use Rattle.widl_calls.specs.declared.call_asker.CallState.{CallState}
use Rattle.widl_calls.specs.declared.call_asker.CallState.TheVariants.{Begins, Waits, Ended}
use Rattle.widl_calls.specs.declared.frames.CallFrame.{CallFrame}
use Rattle.widl_calls.specs.declared.moves.CallMove.{CallMove}
use Rattle.widl_calls.specs.declared.settle.CallSettled.{CallSettled}
use Rattle.widl_calls.specs.declared.settle.CallSettled.TheVariants as settled
use Rattle.widl_calls.specs.Frames.{CallLeads, call_after, call_dialog, call_frame_load, call_job_of, call_patience, call_returned_to, call_weight, job_load}
use Rattle.widl_calls.specs.Waits.{call_kind_for}

-- what may construct
abbrev pub IsInterfaceObject : Builtin → Type 0
IsInterfaceObject (builtins.InterfaceObject iface) = Unit {0}
IsInterfaceObject _ = ⊥

-- 1. What is left

-- what a move and the frames under it still do
abbrev pub call_moves_on : DefsTerm → StepsOf → CallMove → List CallFrame → CallTalk
call_moves_on list steps m frames = bind (call_dialog list steps m) (under (call_returned_to list steps) frames)

-- what is left after an answer, over the frames; of a call that has ended nothing is expected
abbrev pub call_left : DefsTerm → StepsOf → CallState → AnswerTerm → CallTalk
call_left list steps (Begins j) a = call_rule calls_built_today list steps (call_job_of list steps j)
call_left list steps (Waits w) a = call_after list steps w a
call_left list steps Ended a = not_built

-- what is left after an answer
abbrev pub call_rest : DefsTerm → StepsOf → CallAsker → AnswerTerm → CallTalk
call_rest list steps asker a = bind (call_left list steps asker.state a) (under (call_returned_to list steps) asker.frames.items)

-- 2. Which answer is expected

-- the kind of the ask whose answer is waited for
abbrev pub call_waiting : CallState → Option AskKind
call_waiting (Begins j) = None
call_waiting (Waits w) = Some (call_kind_for w)
call_waiting Ended = None

abbrev pub call_pending : CallAsker → Option AskKind
call_pending asker = call_waiting asker.state

-- before anything was asked the answer that begins, and after an ask one that fits it
abbrev pub CallAwaits : CallState → AnswerTerm → Type 0
CallAwaits (Begins j) a = a ≡ BeginAnswer
CallAwaits (Waits w) a = IsWanted (call_kind_for w) a
CallAwaits Ended a = ⊥

abbrev pub CallExpects : CallAsker → AnswerTerm → Type 0
CallExpects asker a = CallAwaits asker.state a

abbrev pub CallHasEnded : CallAsker → Type 0
CallHasEnded asker = (a : AnswerTerm) → CallExpects asker a → ⊥

-- 3. For readers: where a call stands in a talk of a task

-- these are the asks and answers of the task so far, and `last` is the ask that waits for its answer, or none has been asked yet
pub record CallStands (list : DefsTerm) (steps : StepsOf) (asker : CallAsker) (task : CallTask) (said : Said) (last : Option AskTerm) : Type 0 where
  pub waits : call_pending asker ≡ kind_of_last last
  pub place : At (call_rule calls_built_today list steps) Fits (call_rule calls_built_today list steps task) said (still BeginAnswer (call_rest list steps asker) last)

-- it comes next in the task's conversation, which stands there with its ask
abbrev pub CallIsTold : DefsTerm → StepsOf → CallAsker → CallTask → Said → Option (Next AskTerm TaskEnd) → Type 0
CallIsTold list steps asker task said None = Unit {0}
CallIsTold list steps asker task said (Some (Asks ask)) = IsNext (call_rule calls_built_today list steps) task said (Asks ask) × CallStands list steps asker task said (Some ask)
CallIsTold list steps asker task said (Some (Ends r)) = IsNext (call_rule calls_built_today list steps) task said (Ends r)

abbrev pub CallTells : DefsTerm → StepsOf → CallAsker → CallTask → Said → NextAnswer → Type 0
CallTells list steps asker task said answer = CallIsTold list steps asker task said (next_said answer)

-- 4. For callers: tasks alone lead from what was left to the answer, and after an ask the asker knows what is left

abbrev pub CallIsReached : DefsTerm → StepsOf → CallTalk → CallAsker → Option (Next AskTerm TaskEnd) → Type 0
CallIsReached list steps d asker None = Unit {0}
CallIsReached list steps d asker (Some (Asks ask)) = (call_pending asker ≡ Some (kind_of ask)) × CallLeads list steps d (Say ask (call_rest list steps asker))
CallIsReached list steps d asker (Some (Ends r)) = CallLeads list steps d (End r)

abbrev pub CallResumes : DefsTerm → StepsOf → CallTalk → CallAsker → NextAnswer → Type 0
CallResumes list steps d asker answer = CallIsReached list steps d asker (next_said answer)

-- 5. What is left without a charge

abbrev pub call_pause : DefsTerm → CallState → ℕ
call_pause list (Begins j) = 1 + job_load list j
call_pause list (Waits w) = call_patience list w
call_pause list Ended = 0

abbrev pub call_quiet : DefsTerm → CallAsker → ℕ
call_quiet list asker = stack_load call_frame_load asker.frames.items + call_pause list asker.state

-- it has asked nothing, or waits for the answer to an ask that takes no charge
abbrev pub IsCallQuietState : CallState → Type 0
IsCallQuietState (Begins j) = Unit {0}
IsCallQuietState (Waits w) = IsFree (call_kind_for w)
IsCallQuietState Ended = ⊥

abbrev pub IsCallQuiet : CallAsker → Type 0
IsCallQuiet asker = IsCallQuietState asker.state

-- where that was so, and it asks, less is left than before
abbrev pub IsCallCalmer : DefsTerm → CallAsker → CallAsker → NextAnswer → Type 0
IsCallCalmer list old new (next.Ask ask) = IsCallQuiet old → call_quiet list new < call_quiet list old
IsCallCalmer list old new _ = Unit {0}

-- it asks, or it has ended
abbrev pub CallEndsUnlessAsks : CallAsker → NextAnswer → Type 0
CallEndsUnlessAsks asker (next.Ask ask) = Unit {0}
CallEndsUnlessAsks asker _ = CallHasEnded asker

-- 6. Up to the next ask or the end

-- tasks lead from the talk to what a move over these frames still does, and no more is left than the bound
pub record CallFollows (list : DefsTerm) (steps : StepsOf) (d : CallTalk) (bound : ℕ) (m : CallMove) (frames : List CallFrame) : Type 0 where
  pub place : CallLeads list steps d (call_moves_on list steps m frames)
  pub less : stack_load call_frame_load frames + call_weight list m ≤ bound

abbrev pub CallSettles : DefsTerm → StepsOf → CallTalk → ℕ → List CallFrame → CallSettled → Type 0
CallSettles list steps d bound frames (settled.Waits p) =
    CallLeads list steps d (bind (Say (ask_term p.ask) (call_after list steps p.wait)) (under (call_returned_to list steps) frames)) × (stack_load call_frame_load frames + call_patience list p.wait ≤ bound)
CallSettles list steps d bound frames (settled.Ends r) = CallLeads list steps d (End (end_of r))
CallSettles list steps d bound frames settled.Memory = Unit {0}
