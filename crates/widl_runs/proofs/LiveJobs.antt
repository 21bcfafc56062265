-- For proofs alone. What actions, asks and jobs hold are live references.
use Rattle.std.proofs.Common.{◌≡◌, None, ℕ, ◌+◌, ◌<◌, ◌^◌, List, [], ◌∷◌, ◌++◌, length}
use Rattle.std.proofs.lemmas.Bool.{cond_both}
use Rattle.std.specs.Prelude.{bytes_eq}
use Rattle.widl_dialog.specs.Dialog.{End, Say, Steps, bind}
use Rattle.widl_text.specs.declared.key.Key.{Key}
use Rattle.widl_value.specs.declared.value.Value.{Value}
use Rattle.widl_value.specs.declared.value.Value.TheVariants as values
use Rattle.widl_value.specs.IdlTerms.{IdlTerm}
use Rattle.widl_store.specs.declared.property.Prop.{Prop}
use Rattle.widl_store.specs.Inners.{InnerTerm}
use Rattle.widl_store.specs.Objects.{Obj, IsLive}
use Rattle.widl_script_tree.specs.Trees.{Text}
use Rattle.widl_steps.specs.AskTerms.{AskTerm, GetAsk, CallAsk, UnitAsk, NoteAsk, OwnKeysAsk, OwnAsk, LookAsk, NewAsk, NewTerm, ChangeAsk}
use Rattle.widl_steps.specs.Tasks.{Task, Primitive, Scalar, Convert, SequenceFrom, Turns, Entries, Members, Resolve, Arguments, Default, Defaults, Out, OutItems, OutUnits}
use Rattle.widl_steps.specs.CallTasks.{CallTask, Of, Function}
use Rattle.widl_runs.specs.Ends.{JobEnd, answer_of}
use Rattle.widl_runs.specs.Worlds.{Bindings, with_value, bound_parameters}
use Rattle.widl_runs.specs.Actions.{Action, Pay, Write, TestDepth, Enter, Leave, FindBody, ReadThis, ReadName, BindName, TakeSymbol, AddObject, FindProperty, PutProperty, DefineProperty, DeleteProperty, FindKeys, FindOwn, FindInner, ChangePart, Reach, Reply, object_in, part_of, properties_of}
use Rattle.widl_runs.specs.Jobs.{Program, RowUse, ForArguments, ForNew, ForItems, Job, RunStatements, RunStatement, Evaluate, EvaluateRow, ReadMember, SetMember, DefineMember, DefineAccessor, DeleteMember, CallValue, ConstructValue, Talk, Asked, Fail, Doing}
use Rattle.widl_runs.specs.Fitting.{AreFew, count_of, HasShortRows, HaveShortRows, HasFunctions, HasFunction, IsPlain, ThrowsPlain, CanBeMade, script_number}
use Rattle.widl_runs.proofs.LiveParts.{LiveTerm, LiveTerms, LiveTermList, LivePart, LiveValue, LiveOption, LiveValues, LiveEnd, LiveProp, LiveBindings, LiveContext, LiveReply, LiveInner, LiveProps, LiveAnswer, LiveChange}

-- 1. What actions and jobs hold

-- what a new object is made of is live
abbrev pub LiveItems : List Obj → InnerTerm → List (Key × Prop) → Type 0
LiveItems objects inner entries = LiveInner objects inner × LiveProps objects entries

-- what a conversation asks for is no function of the script
pub record LiveNew (objects : List Obj) (new : NewTerm) : Type 0 where
  pub other : script_number (part_of new) ≡ None
  pub items : LiveItems objects (part_of new) (properties_of new)

abbrev pub LiveAction : Program → List Obj → Action → Type 0
LiveAction p objects Pay = Unit {0}
LiveAction p objects (Write event) = Unit {0}
LiveAction p objects TestDepth = Unit {0}
LiveAction p objects (Enter context) = LiveContext objects context
LiveAction p objects Leave = Unit {0}
LiveAction p objects (FindBody o) = IsLive objects o
LiveAction p objects ReadThis = Unit {0}
LiveAction p objects (ReadName name) = Unit {0}
LiveAction p objects (BindName name v) = LiveValue objects v
LiveAction p objects TakeSymbol = Unit {0}
LiveAction p objects (AddObject plan) = CanBeMade p objects plan × LiveItems objects plan.inner plan.entries
LiveAction p objects (FindProperty o key) = IsLive objects o
LiveAction p objects (PutProperty o key v) = IsLive objects o × LiveValue objects v
LiveAction p objects (DefineProperty o key prop) = IsLive objects o × LiveProp objects prop
LiveAction p objects (DeleteProperty o key) = IsLive objects o
LiveAction p objects (FindKeys o) = IsLive objects o
LiveAction p objects (FindOwn o key) = IsLive objects o
LiveAction p objects (FindInner o) = IsLive objects o
LiveAction p objects (ChangePart o change) = IsLive objects o × LiveChange objects change
LiveAction p objects (Reach end) = Unit {0}

-- asks, and tasks of conversations

abbrev pub LiveAsk : List Obj → AskTerm → Type 0
LiveAsk objects (GetAsk o key) = IsLive objects o
LiveAsk objects (CallAsk f this args) = IsLive objects f × LiveValue objects this × LiveValues objects args × AreFew args
LiveAsk objects UnitAsk = Unit {0}
LiveAsk objects (NoteAsk event) = Unit {0}
LiveAsk objects (OwnKeysAsk o) = IsLive objects o
LiveAsk objects (OwnAsk o key) = IsLive objects o
LiveAsk objects (LookAsk o what) = IsLive objects o
LiveAsk objects (NewAsk new) = LiveNew objects new
LiveAsk objects (ChangeAsk o change) = IsLive objects o × LiveChange objects change

abbrev pub LiveRecord : List Obj → List (List ℕ × IdlTerm) → Type 0
LiveRecord objects [] = Unit {0}
LiveRecord objects (e ∷ es) = LiveTerm objects e.1 × LiveRecord objects es

abbrev pub LiveMade : List Obj → List (ℕ × ℕ × IdlTerm) → Type 0
LiveMade objects [] = Unit {0}
LiveMade objects (e ∷ es) = LiveTerm objects e.2 × LiveMade objects es

abbrev pub LiveTask : List Obj → Task → Type 0
LiveTask objects (Primitive hint v) = LiveValue objects v
LiveTask objects (Scalar want v) = LiveValue objects v
LiveTask objects (Convert t v) = LiveValue objects v
LiveTask objects (SequenceFrom t o method) = IsLive objects o × IsLive objects method
LiveTask objects (Turns t iterator next made) = IsLive objects iterator × IsLive objects next × LiveTermList objects made
LiveTask objects (Entries key t o left made) = IsLive objects o × LiveRecord objects made
LiveTask objects (Members n o left made) = LivePart objects o × LiveMade objects made
LiveTask objects (Resolve callee args) = LiveValues objects args
LiveTask objects (Arguments callee entries place left made) = LiveValues objects left × LiveTermList objects made
LiveTask objects (Default t literal) = Unit {0}
LiveTask objects (Defaults callee overload made) = LiveTermList objects made
LiveTask objects (Out t w) = LiveTerm objects w
LiveTask objects (OutItems container left made) = LiveTerms objects left × LiveValues objects made
LiveTask objects (OutUnits left container made) = LiveValues objects made

abbrev pub LiveCall : List Obj → CallTask → Type 0
LiveCall objects (Of t) = LiveTask objects t
LiveCall objects (Function f what this args construct) = LiveValue objects this × LiveValues objects args × AreFew args

abbrev pub LiveUse : List Obj → RowUse → Type 0
LiveUse objects (ForArguments f this) = LiveValue objects f × LiveValue objects this
LiveUse objects (ForNew f) = LiveValue objects f
LiveUse objects ForItems = Unit {0}

abbrev pub LiveJob : Program → List Obj → Job → Type 0
LiveJob p objects (RunStatements ss) = HasFunctions (length p.script.functions) ss
LiveJob p objects (RunStatement s) = HasFunction (length p.script.functions) s
LiveJob p objects (Evaluate e) = HasShortRows e
LiveJob p objects (EvaluateRow what vs es) = LiveUse objects what × LiveValues objects vs × (length vs + count_of es < 2 ^ 32) × HaveShortRows es
LiveJob p objects (ReadMember of key) = LiveValue objects of
LiveJob p objects (SetMember of key v) = LiveValue objects of × LiveValue objects v
LiveJob p objects (DefineMember of key v hidden) = LiveValue objects of × LiveValue objects v
LiveJob p objects (DefineAccessor of key getter setter) = LiveValue objects of × LiveValue objects getter × LiveOption objects setter
LiveJob p objects (DeleteMember of key) = LiveValue objects of
LiveJob p objects (CallValue f this args) = LiveValue objects f × LiveValue objects this × LiveValues objects args × AreFew args
LiveJob p objects (ConstructValue f args) = LiveValue objects f
LiveJob p objects (Talk task) = LiveCall objects task
LiveJob p objects (Asked ask) = LiveAsk objects ask
LiveJob p objects (Fail code) = Unit {0}

-- the reply of an action is live, and a new object has its shape
abbrev pub HasShape : Action → Reply → Type 0
HasShape (AddObject plan) r = (object_in r).shape ≡ plan.shape
HasShape _ r = Unit {0}

abbrev pub LiveReplyTo : List Obj → Action → Reply → Type 0
LiveReplyTo objects q r = LiveReply objects r × HasShape q r

-- what a job ends with is live; the end of the work of an ask makes a live answer
abbrev pub LiveJobEnd : List Obj → Job → JobEnd → Type 0
LiveJobEnd objects (Asked ask) c = LiveAnswer objects (answer_of ask c)
LiveJobEnd objects _ c = LiveEnd objects c

-- where each reply and each end of a job is live, so is all that the steps do, and their own end is as it is wanted
abbrev pub Safe : Program → List Obj → (JobEnd → Type 0) → Doing → Type 0
Safe p objects Wanted (End c) = Wanted c
Safe p objects Wanted (Say q k) = LiveAction p objects q × ((r : Reply) → LiveReplyTo objects q r → Safe p objects Wanted (k r))
Safe p objects Wanted (Steps j k) = LiveJob p objects j × ((c : JobEnd) → LiveJobEnd objects j c → Safe p objects Wanted (k c))

pub safe_bind : (p : Program) (objects : List Obj) (First Wanted : JobEnd → Type 0) (d : Doing) (k : JobEnd → Doing) → Safe p objects First d → ((c : JobEnd) → First c → Safe p objects Wanted (k c)) → Safe p objects Wanted (bind d k)
safe_bind p objects First Wanted (End c) k x y = y c x
safe_bind p objects First Wanted (Say q f) k x y = (x.0, λ r l. safe_bind p objects First Wanted (f r) k (x.1 r l) y)
safe_bind p objects First Wanted (Steps j f) k x y = (x.0, λ c l. safe_bind p objects First Wanted (f c) k (x.1 c l) y)

-- less is wanted of the end
pub safe_weaker : (p : Program) (objects : List Obj) (First Wanted : JobEnd → Type 0) (d : Doing) → ((c : JobEnd) → First c → Wanted c) → Safe p objects First d → Safe p objects Wanted d
safe_weaker p objects First Wanted (End c) weaker x = weaker c x
safe_weaker p objects First Wanted (Say q f) weaker x = (x.0, λ r l. safe_weaker p objects First Wanted (f r) weaker (x.1 r l))
safe_weaker p objects First Wanted (Steps j f) weaker x = (x.0, λ c l. safe_weaker p objects First Wanted (f c) weaker (x.1 c l))

-- 2. The values of rows, parameters and steps

module _ (objects : List Obj) where
  abbrev Alive : Value → Type 0
  Alive v = LiveValue objects v

  pub live_append : (vs : List Value) (v : Value) → LiveValues objects vs → Alive v → LiveValues objects (vs ++ v ∷ [])
  live_append [] v ls l = (l, tt)
  live_append (x ∷ vs) v ls l = (ls.0, live_append vs v ls.1 l)

  pub live_bound : (bs : Bindings) (name : Text) (v : Value) → LiveBindings objects bs → Alive v → LiveBindings objects (with_value bs name v)
  live_bound [] name v ls l = (l, tt)
  live_bound (b ∷ bs) name v ls l = cond_both (bytes_eq name b.0) ((b.0, v) ∷ bs) (b ∷ with_value bs name v) (LiveBindings objects) (λ e. (l, ls.1)) (λ e. (ls.0, live_bound bs name v ls.1 l))

  pub live_parameters : (bs : Bindings) (params : List Text) (args : List Value) → LiveBindings objects bs → LiveValues objects args → LiveBindings objects (bound_parameters bs params args)
  live_parameters bs [] args ls l = ls
  live_parameters bs (name ∷ params) [] ls l = ls
  live_parameters bs (name ∷ params) (v ∷ args) ls l = live_parameters (with_value bs name v) params args (live_bound bs name v ls l.0) l.1

  pub live_plain : (v : Value) → IsPlain v → Alive v
  live_plain values.Undefined x = tt
  live_plain values.Null x = tt
  live_plain (values.Bool b) x = tt
  live_plain (values.Num n) x = tt
  live_plain (values.Str text) x = tt
  live_plain (values.Sym id) x = tt
  live_plain (values.Obj o) x = absurd x
