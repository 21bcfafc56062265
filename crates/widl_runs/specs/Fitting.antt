-- What each place fits that a run comes to: the objects that its action names are there, there is room for what it adds, and a call has few
-- arguments.
-- Source: this program's own.
use Rattle.std.specs.Prelude.{◌≡◌, ℕ, ◌+◌, ◌<◌, ◌^◌, ◌-◌, Option, None, Some, List, length, All, IfSome}
use Rattle.widl_dialog.specs.Dialog.{Say, Steps, bind}
use Rattle.widl_dialog.specs.Runs.{Went}
use Rattle.widl_value.specs.declared.value.Value.{Value}
use Rattle.widl_value.specs.declared.value.Value.TheVariants as values
use Rattle.widl_store.specs.Inners.{InnerTerm, ScriptPart}
use Rattle.widl_store.specs.Objects.{Obj, IsLive}
use Rattle.widl_store.specs.Plans.{Plan}
use Rattle.widl_script_tree.specs.declared.steps.StepLine.{StepLine}
use Rattle.widl_script_tree.specs.declared.steps.StepLine.TheVariants as steps
use Rattle.widl_script_tree.specs.Trees.{ExpressionTree, UndefinedT, NullT, ThisT, NewSymbolT, NewObjectT, BoolT, NumberT, TextT, NameT, SymbolT, ObjectOfT, NewArrayT, MemberT, IndexT, CallT, NewT, CallWithT, ExpressionTrees, none, more, MemberTree, NamedT, ComputedT, StatementTree, LetT, DoT, ReturnT, ThrowT, ShowT, SetT, DefineT, DefineAccessorT, DeleteT, TryT, IfT, FunctionT, StepsT, StatementTrees, no_statements, then_more, ScriptTree}
use Rattle.widl_steps.specs.CallTasks.{CallTask, Function}
use Rattle.widl_runs.specs.Ends.{JobEnd}
use Rattle.widl_runs.specs.Worlds.{World}
use Rattle.widl_runs.specs.Actions.{Action, FindBody, TakeSymbol, AddObject, FindProperty, PutProperty, DefineProperty, DeleteProperty, FindKeys, FindOwn, FindInner, ChangePart, Reply, act, Prototype, prototype}
use Rattle.widl_runs.specs.Jobs.{Program, Job, Talk, Doing}
use Rattle.widl_runs.specs.Rules.{rule}

-- 1. The scripts that are run

-- there are fewer than 2^32 values, and fewer expressions in a row
abbrev pub AreFew : List Value → Type 0
AreFew args = length args < 2 ^ 32

abbrev pub count_of : ExpressionTrees → ℕ
count_of none = 0
count_of (more e es) = 1 + count_of es

abbrev mutual
  pub HasShortRows : ExpressionTree → Type 0
  HasShortRows UndefinedT = Unit {0}
  HasShortRows NullT = Unit {0}
  HasShortRows ThisT = Unit {0}
  HasShortRows NewSymbolT = Unit {0}
  HasShortRows NewObjectT = Unit {0}
  HasShortRows (BoolT b) = Unit {0}
  HasShortRows (NumberT n) = Unit {0}
  HasShortRows (TextT text) = Unit {0}
  HasShortRows (NameT name) = Unit {0}
  HasShortRows (SymbolT id) = Unit {0}
  HasShortRows (ObjectOfT proto) = HasShortRows proto
  HasShortRows (NewArrayT es) = (count_of es < 2 ^ 32) × HaveShortRows es
  HasShortRows (MemberT of name) = HasShortRows of
  HasShortRows (IndexT of key) = HasShortRows of × HasShortRows key
  HasShortRows (CallT f args) = HasShortRows f × (count_of args < 2 ^ 32) × HaveShortRows args
  HasShortRows (NewT f args) = HasShortRows f × (count_of args < 2 ^ 32) × HaveShortRows args
  HasShortRows (CallWithT f this args) = HasShortRows f × HasShortRows this × (count_of args < 2 ^ 32) × HaveShortRows args

  pub HaveShortRows : ExpressionTrees → Type 0
  HaveShortRows none = Unit {0}
  HaveShortRows (more e es) = HasShortRows e × HaveShortRows es

abbrev pub HasShortMember : MemberTree → Type 0
HasShortMember (NamedT of name) = HasShortRows of
HasShortMember (ComputedT of key) = HasShortRows of × HasShortRows key

abbrev pub HasShortOption : Option ExpressionTree → Type 0
HasShortOption e = IfSome e HasShortRows

-- each row is short, and each `function` has a number below this one
abbrev mutual
  pub HasFunctions : ℕ → StatementTrees → Type 0
  HasFunctions count no_statements = Unit {0}
  HasFunctions count (then_more s ss) = HasFunction count s × HasFunctions count ss

  pub HasFunction : ℕ → StatementTree → Type 0
  HasFunction count (LetT name e) = HasShortRows e
  HasFunction count (DoT e) = HasShortRows e
  HasFunction count (ReturnT e) = HasShortRows e
  HasFunction count (ThrowT e) = HasShortRows e
  HasFunction count (ShowT e) = HasShortRows e
  HasFunction count (SetT m e) = HasShortMember m × HasShortRows e
  HasFunction count (DefineT m e hidden) = HasShortMember m × HasShortRows e
  HasFunction count (DefineAccessorT m getter setter) = HasShortMember m × HasShortRows getter × HasShortOption setter
  HasFunction count (DeleteT m) = HasShortMember m
  HasFunction count (TryT body name handler) = HasFunctions count body × HasFunctions count handler
  HasFunction count (IfT left right met unmet) = HasShortRows left × HasShortRows right × HasFunctions count met × HasFunctions count unmet
  HasFunction count (FunctionT number name params body) = number < count
  HasFunction count (StepsT target lines) = Unit {0}

-- what a step throws is no object
abbrev pub IsPlain : Value → Type 0
IsPlain (values.Obj object) = ⊥
IsPlain _ = Unit {0}

abbrev pub ThrowsPlain : StepLine → Type 0
ThrowsPlain (steps.Throw v) = IsPlain v
ThrowsPlain _ = Unit {0}

abbrev pub HasPlainSteps : StatementTrees → Type 0
HasPlainSteps no_statements = Unit {0}
HasPlainSteps (then_more (StepsT target lines) ss) = All ThrowsPlain lines × HasPlainSteps ss
HasPlainSteps (then_more s ss) = HasPlainSteps ss

-- the functions of a script are there, each row is short, and no step of an operation throws an object
pub record IsRunnable (script : ScriptTree) : Type 0 where
  pub top : HasFunctions (length script.functions) script.top
  pub bodies : All (λ f. HasFunctions (length script.functions) f.body) script.functions
  pub steps : HasPlainSteps script.top

-- 2. The places that a run comes to

-- the steps in a world come to these steps in this world
pub data Comes (p : Program) (e : Doing) (u : World) : Doing → World → Type 0 where
  here : Comes p e u e u
  said : (q : Action) (k : Reply → Doing) (r : Reply) (w v : World) → act p.list q w ≡ Went v r → Comes p e u (k r) v → Comes p e u (Say q k) w
  begun : (j : Job) (k : JobEnd → Doing) (w : World) → Comes p e u (bind (rule p j) k) w → Comes p e u (Steps j k) w

-- 3. What fits there

-- the prototypes of what a script makes are there
abbrev pub HasPrototypes : List Obj → Type 0
HasPrototypes objects = (p : Prototype) → IsLive objects (prototype p)

-- the number of a function of a script
abbrev pub script_number : InnerTerm → Option ℕ
script_number (ScriptPart number) = Some number
script_number _ = None

-- the prototype of a new object is there, and a new function is one of the script
abbrev pub CanBeMade : Program → List Obj → Plan → Type 0
CanBeMade p objects plan = IfSome plan.proto (IsLive objects) × IfSome (script_number plan.inner) (λ number. number < length p.script.functions)

abbrev pub FitsAction : Program → Action → World → Type 0
FitsAction p (FindBody object) w = IsLive w.store.objects object
FitsAction p TakeSymbol w = w.next_symbol < 2 ^ 32 - 1
FitsAction p (AddObject plan) w = (length w.store.objects < 2 ^ 32 - 1) × HasPrototypes w.store.objects × CanBeMade p w.store.objects plan
FitsAction p (FindProperty object key) w = IsLive w.store.objects object
FitsAction p (PutProperty object key v) w = IsLive w.store.objects object
FitsAction p (DefineProperty object key prop) w = IsLive w.store.objects object
FitsAction p (DeleteProperty object key) w = IsLive w.store.objects object
FitsAction p (FindKeys object) w = IsLive w.store.objects object
FitsAction p (FindOwn object key) w = IsLive w.store.objects object
FitsAction p (FindInner object) w = IsLive w.store.objects object
FitsAction p (ChangePart object change) w = IsLive w.store.objects object
FitsAction p _ w = Unit {0}

-- the call of a function that isn't written in the script has few arguments
abbrev pub FitsCall : CallTask → Type 0
FitsCall (Function f what this args construct) = AreFew args
FitsCall _ = Unit {0}

abbrev pub FitsJob : Job → Type 0
FitsJob (Talk task) = FitsCall task
FitsJob _ = Unit {0}

abbrev pub FitsPlace : Program → Doing → World → Type 0
FitsPlace p (Say q k) w = FitsAction p q w
FitsPlace p (Steps j k) w = FitsJob j
FitsPlace p _ w = Unit {0}

-- each place that the steps come to fits
pub record KeepsFitting (p : Program) (d : Doing) (w : World) : Type 0 where
  pub each : (e : Doing) (u : World) → Comes p e u d w → FitsPlace p e u
