-- For proofs alone. What it means that a conversation holds live references alone, and the words of which steps are made.
use Rattle.std.proofs.Common.{ℕ, Bool, List, if◌then◌else◌}
use Rattle.std.proofs.lemmas.Bool.{cond_both}
use Rattle.widl_dialog.specs.Dialog.{End, Say, Steps}
use Rattle.widl_dialog.specs.Rename.{rename}
use Rattle.widl_value.specs.declared.number.Number.{Number}
use Rattle.widl_value.specs.declared.object.ObjRef.{ObjRef}
use Rattle.widl_value.specs.declared.object.Shape.{Shape}
use Rattle.widl_value.specs.declared.object.Shape.TheVariants as shapes
use Rattle.widl_value.specs.declared.value.Value.{Value}
use Rattle.widl_value.specs.declared.value.Value.TheVariants as values
use Rattle.widl_value.specs.IdlTerms.{IdlTerm}
use Rattle.widl_store.specs.Objects.{IsLive, Obj}
use Rattle.widl_trace.specs.declared.code.Code.{Code}
use Rattle.widl_trace.specs.declared.code.Code.TheVariants as code
use Rattle.widl_steps.specs.AskTerms.{AnswerTerm, BeginAnswer, DoneAnswer, NormalAnswer, ThrownAnswer, KeysAnswer, OwnAnswer, SightAnswer}
use Rattle.widl_steps.specs.Tasks.{TalkOf, TaskEnd, Gives, Plain, Picks, Throw, Rethrow, Profile, Talk as TaskTalk}
use Rattle.widl_steps.specs.Words.{callable_or, fails, given, if_callable, method_or, normal, number, object, object_or, returned, text}
use Rattle.widl_steps.specs.CallTasks.{CallTalk, Of}
use Rattle.widl_runs.specs.Asks.{in_world}
use Rattle.widl_runs.specs.Ends.{JobEnd, Normal, Returned, Thrown, Talked, Seen, answer_of, completion_answer, task_end_in}
use Rattle.widl_runs.specs.Jobs.{Program}
use Rattle.widl_runs.proofs.LiveParts.{LiveValue, LiveTerm, LiveTaskEnd, LiveAnswer, LiveEnd}
use Rattle.widl_runs.proofs.LiveJobs.{LiveAsk, LiveTask, LiveCall, Safe}

-- 1. Safe conversations

-- where each answer and each end of a task is live, so is all that is asked, and the end
abbrev pub SafeTalk : {J : Type 0} → List Obj → (J → Type 0) → TalkOf J → Type 0
SafeTalk objects Live (End r) = LiveTaskEnd objects r
SafeTalk objects Live (Say ask k) = LiveAsk objects ask × ((a : AnswerTerm) → LiveAnswer objects a → SafeTalk objects Live (k a))
SafeTalk objects Live (Steps t k) = Live t × ((r : TaskEnd) → LiveTaskEnd objects r → SafeTalk objects Live (k r))

pub safe_rename : (objects : List Obj) (d : TaskTalk) → SafeTalk objects (LiveTask objects) d → SafeTalk objects (LiveCall objects) (rename Of d)
safe_rename objects (End r) x = x
safe_rename objects (Say ask k) x = (x.0, λ a l. safe_rename objects (k a) (x.1 a l))
safe_rename objects (Steps t k) x = (x.0, λ r l. safe_rename objects (k r) (x.1 r l))

-- 2. The ends of jobs as answers

module _ (objects : List Obj) where
  pub live_task_end : (c : JobEnd) → LiveEnd objects c → LiveTaskEnd objects (task_end_in c)
  live_task_end (Normal v) l = tt
  live_task_end (Returned v) l = tt
  live_task_end (Thrown v) l = tt
  live_task_end (Talked end) l = l
  live_task_end (Seen answer) l = tt

  pub live_completion : (c : JobEnd) → LiveEnd objects c → LiveAnswer objects (completion_answer c)
  live_completion (Normal v) l = l
  live_completion (Returned v) l = tt
  live_completion (Thrown v) l = l
  live_completion (Talked end) l = tt
  live_completion (Seen answer) l = tt

-- a safe conversation is safe in the world
pub safe_in_world : (p : Program) (objects : List Obj) (d : CallTalk) → SafeTalk objects (LiveCall objects) d → Safe p objects (LiveEnd objects) (in_world d)
safe_in_world p objects (End r) x = x
safe_in_world p objects (Say ask k) x = (x.0, λ c l. let a : AnswerTerm = answer_of ask c in safe_in_world p objects (k a) (x.1 a l))
safe_in_world p objects (Steps t k) x = (x.0, λ c l. safe_in_world p objects (k (task_end_in c)) (x.1 (task_end_in c) (live_task_end objects c l)))

-- 3. Words, for all sets of tasks

module _ {J : Type 0} (objects : List Obj) (Live : J → Type 0) where
  abbrev pub IsSafe : TalkOf J → Type 0
  IsSafe d = SafeTalk objects Live d

  pub safe_normal : (k : Value → TalkOf J) → ((v : Value) → LiveValue objects v → IsSafe (k v)) → (a : AnswerTerm) → LiveAnswer objects a → IsSafe (normal k a)
  safe_normal k each BeginAnswer l = each values.Undefined tt
  safe_normal k each DoneAnswer l = each values.Undefined tt
  safe_normal k each (NormalAnswer v) l = each v l
  safe_normal k each (ThrownAnswer v) l = l
  safe_normal k each (KeysAnswer keys) l = each values.Undefined tt
  safe_normal k each (OwnAnswer flags) l = each values.Undefined tt
  safe_normal k each (SightAnswer sight) l = each values.Undefined tt

  pub safe_object : (why : Code) (k : ObjRef → TalkOf J) → ((o : ObjRef) → IsLive objects o → IsSafe (k o)) → (v : Value) → LiveValue objects v → IsSafe (object why k v)
  safe_object why k each values.Undefined l = tt
  safe_object why k each values.Null l = tt
  safe_object why k each (values.Bool b) l = tt
  safe_object why k each (values.Num x) l = tt
  safe_object why k each (values.Str text) l = tt
  safe_object why k each (values.Sym id) l = tt
  safe_object why k each (values.Obj o) l = each o l

  pub safe_object_or : (other : Value → TalkOf J) (k : ObjRef → TalkOf J) → ((v : Value) → LiveValue objects v → IsSafe (other v)) → ((o : ObjRef) → IsLive objects o → IsSafe (k o)) → (v : Value) → LiveValue objects v → IsSafe (object_or other k v)
  safe_object_or other k none each values.Undefined l = none values.Undefined tt
  safe_object_or other k none each values.Null l = none values.Null tt
  safe_object_or other k none each (values.Bool b) l = none (values.Bool b) tt
  safe_object_or other k none each (values.Num x) l = none (values.Num x) tt
  safe_object_or other k none each (values.Str text) l = none (values.Str text) tt
  safe_object_or other k none each (values.Sym id) l = none (values.Sym id) tt
  safe_object_or other k none each (values.Obj o) l = each o l

  pub safe_shape : (s : Shape) (d e : TalkOf J) → IsSafe d → IsSafe e → IsSafe (if_callable s d e)
  safe_shape shapes.Plain d e x y = y
  safe_shape shapes.Callable d e x y = x
  safe_shape (shapes.Platform iface) d e x y = y

  pub safe_callable_or : (other : TalkOf J) (k : ObjRef → TalkOf J) → IsSafe other → ((o : ObjRef) → IsLive objects o → IsSafe (k o)) → (v : Value) → LiveValue objects v → IsSafe (callable_or other k v)
  safe_callable_or other k none each values.Undefined l = none
  safe_callable_or other k none each values.Null l = none
  safe_callable_or other k none each (values.Bool b) l = none
  safe_callable_or other k none each (values.Num x) l = none
  safe_callable_or other k none each (values.Str text) l = none
  safe_callable_or other k none each (values.Sym id) l = none
  safe_callable_or other k none each (values.Obj o) l = safe_shape o.shape (k o) other (each o l) none

  pub safe_method_or : (other : TalkOf J) (k : ObjRef → TalkOf J) → IsSafe other → ((o : ObjRef) → IsLive objects o → IsSafe (k o)) → (v : Value) → LiveValue objects v → IsSafe (method_or other k v)
  safe_method_or other k none each values.Undefined l = none
  safe_method_or other k none each values.Null l = none
  safe_method_or other k none each (values.Bool b) l = tt
  safe_method_or other k none each (values.Num x) l = tt
  safe_method_or other k none each (values.Str text) l = tt
  safe_method_or other k none each (values.Sym id) l = tt
  safe_method_or other k none each (values.Obj o) l = safe_shape o.shape (k o) (fails code.NotCallable) (each o l) tt

  pub safe_given : (k : IdlTerm → TalkOf J) → ((w : IdlTerm) → LiveTerm objects w → IsSafe (k w)) → (r : TaskEnd) → LiveTaskEnd objects r → IsSafe (given k r)
  safe_given k each (Gives w) l = each w l
  safe_given k each (Plain v) l = l
  safe_given k each (Picks overload ws) l = l
  safe_given k each (Throw why) l = l
  safe_given k each (Rethrow v) l = l
  safe_given k each (Profile end) l = l

  pub safe_returned : (k : Value → TalkOf J) → ((v : Value) → LiveValue objects v → IsSafe (k v)) → (r : TaskEnd) → LiveTaskEnd objects r → IsSafe (returned k r)
  safe_returned k each (Gives w) l = l
  safe_returned k each (Plain v) l = each v l
  safe_returned k each (Picks overload ws) l = l
  safe_returned k each (Throw why) l = l
  safe_returned k each (Rethrow v) l = l
  safe_returned k each (Profile end) l = l

  pub safe_number : (k : Number → TalkOf J) → ((x : Number) → IsSafe (k x)) → (r : TaskEnd) → LiveTaskEnd objects r → IsSafe (number k r)
  safe_number k each (Gives w) l = l
  safe_number k each (Plain values.Undefined) l = l
  safe_number k each (Plain values.Null) l = l
  safe_number k each (Plain (values.Bool b)) l = l
  safe_number k each (Plain (values.Num x)) l = each x
  safe_number k each (Plain (values.Str text)) l = l
  safe_number k each (Plain (values.Sym id)) l = l
  safe_number k each (Plain (values.Obj o)) l = l
  safe_number k each (Picks overload ws) l = l
  safe_number k each (Throw why) l = l
  safe_number k each (Rethrow v) l = l
  safe_number k each (Profile end) l = l

  pub safe_text : (k : List ℕ → TalkOf J) → ((units : List ℕ) → IsSafe (k units)) → (r : TaskEnd) → LiveTaskEnd objects r → IsSafe (text k r)
  safe_text k each (Gives w) l = l
  safe_text k each (Plain values.Undefined) l = l
  safe_text k each (Plain values.Null) l = l
  safe_text k each (Plain (values.Bool b)) l = l
  safe_text k each (Plain (values.Num x)) l = l
  safe_text k each (Plain (values.Str units)) l = each units
  safe_text k each (Plain (values.Sym id)) l = l
  safe_text k each (Plain (values.Obj o)) l = l
  safe_text k each (Picks overload ws) l = l
  safe_text k each (Throw why) l = l
  safe_text k each (Rethrow v) l = l
  safe_text k each (Profile end) l = l

  pub safe_if : (b : Bool) (d e : TalkOf J) → IsSafe d → IsSafe e → IsSafe (if b then d else e)
  safe_if b d e x y = cond_both b d e IsSafe (λ i. x) (λ i. y)
