-- For proofs and contracts alone; no step names these words. What ties a suspended conversation to the talks of its task.
use Rattle.std.specs.Prelude.{◌≡◌, ℕ, ◌+◌, ◌≤◌, ◌<◌, List, [], ◌∷◌, ◌++◌, Option, Some, None}
use Rattle.widl_dialog.specs.Conversation.{Next, Asks, Ends}
use Rattle.widl_dialog.specs.Dialog.{End, Say, bind}
use Rattle.widl_dialog.specs.Position.{At}
use Rattle.widl_dialog.specs.Stack.{under, stack_load, still}
use Rattle.widl_idl.specs.DefinitionTerms.{DefsTerm}
use Rattle.widl_steps.specs.AskTerms.{AskTerm, AskKind, AnswerTerm, BeginAnswer, Fits, IsFree, IsWanted, ask_term, kind_of}
use Rattle.widl_steps.specs.Built.{built_today}
use Rattle.widl_steps.specs.Laws.{Said, ChainsEnd, IsNext, HasOneNext}
use Rattle.widl_steps.specs.Rules.{rule}
use Rattle.widl_steps.specs.Tasks.{Task, TaskEnd, Throw, Rethrow, Profile, Talk}
use Rattle.widl_steps.specs.Words.{not_built}
use Rattle.widl_convert.specs.declared.asker.Asker.{Asker}
use Rattle.widl_convert.specs.declared.asker.State.{State}
use Rattle.widl_convert.specs.declared.asker.State.TheVariants.{Begins, Waits, Ended}
use Rattle.widl_convert.specs.declared.frames.Frame.{Frame}
use Rattle.widl_convert.specs.declared.moves.Move.{Move}
use Rattle.widl_convert.specs.declared.outcome.Next.{Next as NextAnswer}
use Rattle.widl_convert.specs.declared.outcome.Next.TheVariants as next
use Rattle.widl_convert.specs.declared.settle.Settled.{Settled}
use Rattle.widl_convert.specs.declared.settle.Settled.TheVariants as settled
use Rattle.widl_convert.specs.Frames.{after, end_of, job_of, move_dialog, outcome_end, returned_to}
use Rattle.widl_convert.specs.Loads.{frame_load, given_load, load, patience, weight}
use Rattle.widl_convert.specs.Waits.{kind_for}

-- 1. What is left

-- tasks alone lead from the one place to the other
abbrev pub Leads : DefsTerm → Talk → Talk → Type 0
Leads list d e = At (rule built_today list) Fits d [] e

-- what a move and the frames under it still do
abbrev pub moves_on : DefsTerm → Move → List Frame → Talk
moves_on list m frames = bind (move_dialog list m) (under (returned_to list) frames)

-- what is left after an answer, over the frames; of a conversation that has ended nothing is expected
abbrev pub left : DefsTerm → State → AnswerTerm → Talk
left list (Begins j) a = rule built_today list (job_of list j)
left list (Waits w) a = after list w a
left list Ended a = not_built

-- what is left after an answer
abbrev pub rest : DefsTerm → Asker → AnswerTerm → Talk
rest list asker a = bind (left list asker.state a) (under (returned_to list) asker.frames)

-- 2. Which answer is expected

-- the kind of the ask whose answer is waited for
abbrev pub waiting : State → Option AskKind
waiting (Begins j) = None
waiting (Waits w) = Some (kind_for w)
waiting Ended = None

abbrev pub pending : Asker → Option AskKind
pending asker = waiting asker.state

-- before anything was asked the answer that begins, and after an ask one that fits it
abbrev pub Awaits : State → AnswerTerm → Type 0
Awaits (Begins j) a = a ≡ BeginAnswer
Awaits (Waits w) a = IsWanted (kind_for w) a
Awaits Ended a = ⊥

abbrev pub Expects : Asker → AnswerTerm → Type 0
Expects asker a = Awaits asker.state a

abbrev pub HasEnded : Asker → Type 0
HasEnded asker = (a : AnswerTerm) → Expects asker a → ⊥

-- 3. For readers: where a conversation stands in a talk of a task

abbrev pub kind_of_last : Option AskTerm → Option AskKind
kind_of_last None = None
kind_of_last (Some ask) = Some (kind_of ask)

-- these are the asks and answers of the task so far, and `last` is the ask that waits for its answer, or none has been asked yet
pub record Stands (list : DefsTerm) (asker : Asker) (task : Task) (said : Said) (last : Option AskTerm) : Type 0 where
  pub waits : pending asker ≡ kind_of_last last
  pub place : At (rule built_today list) Fits (rule built_today list task) said (still BeginAnswer (rest list asker) last)

-- what an answer says that comes next; that there is no memory says nothing
abbrev pub next_said : NextAnswer → Option (Next AskTerm TaskEnd)
next_said (next.Ask ask) = Some (Asks (ask_term ask))
next_said (next.Done outcome) = Some (Ends (outcome_end outcome))
next_said (next.Throw reason) = Some (Ends (Throw reason))
next_said (next.Rethrow v) = Some (Ends (Rethrow v))
next_said (next.Profile n) = Some (Ends (Profile n))
next_said next.Memory = None

-- it comes next in the task's conversation, which stands there with its ask
abbrev pub IsTold : DefsTerm → Asker → Task → Said → Option (Next AskTerm TaskEnd) → Type 0
IsTold list asker task said None = Unit {0}
IsTold list asker task said (Some (Asks ask)) = IsNext (rule built_today list) task said (Asks ask) × Stands list asker task said (Some ask)
IsTold list asker task said (Some (Ends r)) = IsNext (rule built_today list) task said (Ends r)

abbrev pub Tells : DefsTerm → Asker → Task → Said → NextAnswer → Type 0
Tells list asker task said answer = IsTold list asker task said (next_said answer)

-- 4. For callers: tasks alone lead from what was left to the answer, and after an ask the asker knows what is left

abbrev pub IsReached : DefsTerm → Talk → Asker → Option (Next AskTerm TaskEnd) → Type 0
IsReached list d asker None = Unit {0}
IsReached list d asker (Some (Asks ask)) = (pending asker ≡ Some (kind_of ask)) × Leads list d (Say ask (rest list asker))
IsReached list d asker (Some (Ends r)) = Leads list d (End r)

abbrev pub Resumes : DefsTerm → Talk → Asker → NextAnswer → Type 0
Resumes list d asker answer = IsReached list d asker (next_said answer)

-- 5. What is left without a charge

abbrev pub pause : DefsTerm → State → ℕ
pause list (Begins j) = 1 + load list (job_of list j)
pause list (Waits w) = patience w
pause list Ended = 0

abbrev pub quiet : DefsTerm → Asker → ℕ
quiet list asker = stack_load (frame_load list) asker.frames + pause list asker.state

-- it has asked nothing, or waits for the answer to an ask that takes no charge
abbrev pub IsQuietState : State → Type 0
IsQuietState (Begins j) = Unit {0}
IsQuietState (Waits w) = IsFree (kind_for w)
IsQuietState Ended = ⊥

abbrev pub IsQuiet : Asker → Type 0
IsQuiet asker = IsQuietState asker.state

-- where that was so, less is left than before: of it where it asks, of what comes of its outcome where it ends
abbrev pub IsCalmer : DefsTerm → Asker → Asker → NextAnswer → Type 0
IsCalmer list old new (next.Ask ask) = IsQuiet old → quiet list new < quiet list old
IsCalmer list old new (next.Done outcome) = IsQuiet old → given_load (outcome_end outcome) < quiet list old
IsCalmer list old new _ = Unit {0}

-- it asks, or it has ended
abbrev pub EndsUnlessAsks : Asker → NextAnswer → Type 0
EndsUnlessAsks asker (next.Ask ask) = Unit {0}
EndsUnlessAsks asker _ = HasEnded asker

-- 6. Up to the next ask or the end

-- tasks lead from the talk to what a move over these frames still does, and no more is left than the bound
pub record Follows (list : DefsTerm) (d : Talk) (bound : ℕ) (m : Move) (frames : List Frame) : Type 0 where
  pub place : Leads list d (moves_on list m frames)
  pub less : stack_load (frame_load list) frames + weight list m ≤ bound

abbrev pub Settles : DefsTerm → Talk → ℕ → List Frame → Settled → Type 0
Settles list d bound frames (settled.Waits p) =
    Leads list d (bind (Say (ask_term p.ask) (after list p.wait)) (under (returned_to list) frames)) × (stack_load (frame_load list) frames + patience p.wait ≤ bound)
Settles list d bound frames (settled.Ends r) = Leads list d (End (end_of r)) × (given_load (end_of r) ≤ bound)
Settles list d bound frames settled.Memory = Unit {0}

-- 7. Laws

-- of a task and what was said of it at most one ask waits
abbrev pub HasOneLast : DefsTerm → Type 0
HasOneLast list = (asker : Asker) (task : Task) (said : Said) (last other : Option AskTerm) → Stands list asker task said last → Stands list asker task said other → other ≡ last

-- after each answer that fits the ask that waits exactly one thing comes next, over a list in which no chain of too many dictionaries begins
abbrev pub EachAnswerGoesOn : DefsTerm → Type 0
EachAnswerGoesOn list =
    ChainsEnd built_today list → (asker : Asker) (task : Task) (said : Said) (ask : AskTerm) (a : AnswerTerm) → Stands list asker task said (Some ask) → Fits ask a → HasOneNext (rule built_today list) task (said ++ (ask, a) ∷ [])
