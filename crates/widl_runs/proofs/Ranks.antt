-- The ranks of jobs and of the tasks of conversations: between two actions that pay a run only goes to lower ones.
use Rattle.std.proofs.Common.{ℕ, suc, ◌+◌, ◌-◌, Bool, true, false, length}
use Rattle.widl_dialog.specs.Calm.{Ranks}
use Rattle.widl_idl.specs.DefinitionTerms.{DefsTerm}
use Rattle.widl_overload.specs.sets.Entries.{declared_args}
use Rattle.widl_value.specs.declared.value.Value.{Value}
use Rattle.widl_value.specs.declared.value.Value.TheVariants as values
use Rattle.widl_value.specs.IdlTerms.{IdlTerm, IdlTerms, EntryTerms, MemberTerms, no_values, more_values, no_entries, more_entries, no_members, more_members, SequenceValue, RecordValue, DictionaryValue}
use Rattle.widl_script_tree.specs.Trees.{ExpressionTree, UndefinedT, NullT, ThisT, NewSymbolT, NewObjectT, BoolT, NumberT, TextT, NameT, SymbolT, ObjectOfT, NewArrayT, MemberT, IndexT, CallT, NewT, CallWithT, ExpressionTrees, none, more, StatementTrees, no_statements, then_more}
use Rattle.widl_steps.specs.declared.want.Want.{Want}
use Rattle.widl_steps.specs.declared.want.Want.TheVariants as wants
use Rattle.widl_steps.specs.AskTerms.{AskTerm, GetAsk, CallAsk, UnitAsk, NoteAsk, OwnKeysAsk, OwnAsk, LookAsk, NewAsk, ChangeAsk}
use Rattle.widl_steps.specs.Tasks.{Task, Primitive, Scalar, Convert, SequenceFrom, Turns, Entries, Members, Resolve, Arguments, Default, Defaults, Out, OutItems, OutUnits}
use Rattle.widl_steps.specs.CallTasks.{CallTask, Of, Function}
use Rattle.widl_runs.specs.Actions.{Action, Pay, Write, TestDepth, Enter, Leave, FindBody, ReadThis, ReadName, BindName, TakeSymbol, AddObject, FindProperty, PutProperty, DefineProperty, DeleteProperty, FindKeys, FindOwn, FindInner, ChangePart, Reach}
use Rattle.widl_runs.specs.Jobs.{Job, RunStatements, RunStatement, Evaluate, EvaluateRow, ReadMember, SetMember, DefineMember, DefineAccessor, DeleteMember, CallValue, ConstructValue, Talk, Asked, Fail}

abbrev mutual
  pub size : ExpressionTree → ℕ
  size UndefinedT = 1
  size NullT = 1
  size ThisT = 1
  size NewSymbolT = 1
  size NewObjectT = 1
  size (BoolT b) = 1
  size (NumberT n) = 1
  size (TextT text) = 1
  size (NameT name) = 1
  size (SymbolT id) = 1
  size (ObjectOfT proto) = suc (size proto)
  size (NewArrayT es) = suc (sizes es)
  size (MemberT of name) = suc (size of)
  size (IndexT of key) = suc (size of + size key)
  size (CallT f args) = suc (size f + sizes args)
  size (NewT f args) = suc (size f + sizes args)
  size (CallWithT f this args) = suc (size f + size this + sizes args)

  pub sizes : ExpressionTrees → ℕ
  sizes none = 0
  sizes (more e es) = suc (size e + sizes es)

abbrev pub count : StatementTrees → ℕ
count no_statements = 0
count (then_more s ss) = suc (count ss)

-- the actions that take units, or stop
abbrev pub pays : Action → Bool
pays Pay = true
pays (Write event) = true
pays TestDepth = false
pays (Enter context) = false
pays Leave = false
pays (FindBody object) = false
pays ReadThis = false
pays (ReadName name) = false
pays (BindName name v) = false
pays TakeSymbol = false
pays (AddObject new) = false
pays (FindProperty object key) = false
pays (PutProperty object key v) = false
pays (DefineProperty object key prop) = false
pays (DeleteProperty object key) = false
pays (FindKeys object) = false
pays (FindOwn object key) = false
pays (FindInner object) = false
pays (ChangePart object change) = false
pays (Reach end) = true

-- 1. Conversations. The first rank counts what a task has of tasks that have more than one, the second one what is left of it.

abbrev pub task_high : Task → ℕ
task_high (Primitive hint v) = 0
task_high (Scalar want v) = 0
task_high (Convert t v) = 0
task_high (SequenceFrom t o method) = 0
task_high (Turns t iterator next made) = 0
task_high (Entries key t o left made) = 0
task_high (Members n o left made) = 0
task_high (Resolve callee args) = 1
task_high (Arguments callee entries place left made) = 1
task_high (Default t literal) = 0
task_high (Defaults callee overload made) = 0
task_high (Out t w) = 0
task_high (OutItems container left made) = 0
task_high (OutUnits left container made) = 0

abbrev pub want_low : Want → ℕ
want_low wants.Number = 1
want_low wants.Text = 1
want_low wants.Length = 2

-- a value on its way to script, with all that it holds
abbrev mutual
  pub value_low : IdlTerm → ℕ
  value_low (SequenceValue items) = 2 + values_low items
  value_low (RecordValue entries) = 2 + entries_low entries
  value_low (DictionaryValue n members) = 2 + members_low members
  value_low _ = 0

  pub values_low : IdlTerms → ℕ
  values_low no_values = 0
  values_low (more_values w left) = suc (value_low w + values_low left)

  pub entries_low : EntryTerms → ℕ
  entries_low no_entries = 0
  entries_low (more_entries name w entries) = suc (value_low w + entries_low entries)

  pub members_low : MemberTerms → ℕ
  members_low no_members = 0
  members_low (more_members dictionary number w members) = suc (value_low w + members_low members)

abbrev pub task_low : DefsTerm → Task → ℕ
task_low list (Primitive hint v) = 0
task_low list (Scalar want v) = want_low want
task_low list (Convert t v) = 3
task_low list (SequenceFrom t o method) = 0
task_low list (Turns t iterator next made) = 0
task_low list (Entries key t o left made) = 0
task_low list (Members n o left made) = 0
task_low list (Resolve callee args) = 2 + length args
task_low list (Arguments callee entries place left made) = 1 + length left
task_low list (Default t literal) = 4
task_low list (Defaults callee overload made) = 5 + (length (declared_args list callee overload) - length made)
task_low list (Out t w) = value_low w
task_low list (OutItems container left made) = 1 + values_low left
task_low list (OutUnits left container made) = 0

abbrev pub call_high : CallTask → ℕ
call_high (Of t) = task_high t
call_high (Function f what this args construct) = 2

abbrev pub call_low : DefsTerm → CallTask → ℕ
call_low list (Of t) = task_low list t
call_low list (Function f what this args construct) = 0

-- an object becomes a primitive value by asks that pay, and so does each ask but a look and a change
abbrev pub is_object : Value → Bool
is_object (values.Obj o) = true
is_object _ = false

abbrev pub talk_spends : CallTask → Bool
talk_spends (Of (Primitive hint v)) = is_object v
talk_spends _ = false

abbrev pub ask_spends : AskTerm → Bool
ask_spends (GetAsk o key) = true
ask_spends (CallAsk f this args) = true
ask_spends UnitAsk = true
ask_spends (NoteAsk event) = true
ask_spends (OwnKeysAsk o) = true
ask_spends (OwnAsk o key) = true
ask_spends (LookAsk o what) = false
ask_spends (NewAsk new) = true
ask_spends (ChangeAsk o change) = false

-- 2. Jobs. Conversations stand above all that a script does: a job comes to one only after the line of a call.

abbrev pub high : Job → ℕ
high (RunStatements ss) = 0
high (RunStatement s) = 0
high (Evaluate e) = 0
high (EvaluateRow what vs es) = 0
high (ReadMember of key) = 0
high (SetMember of key v) = 0
high (DefineMember of key v hidden) = 0
high (DefineAccessor of key getter setter) = 0
high (DeleteMember of key) = 0
high (CallValue f this args) = 0
high (ConstructValue f args) = 0
high (Talk task) = suc (call_high task)
high (Asked ask) = 0
high (Fail code) = 0

abbrev pub low : DefsTerm → Job → ℕ
low list (RunStatements ss) = suc (count ss)
low list (RunStatement s) = 0
low list (Evaluate e) = 2 + size e
low list (EvaluateRow what vs es) = 2 + sizes es
low list (ReadMember of key) = 2
low list (SetMember of key v) = 2
low list (DefineMember of key v hidden) = 2
low list (DefineAccessor of key getter setter) = 2
low list (DeleteMember of key) = 2
low list (CallValue f this args) = 1
low list (ConstructValue f args) = 1
low list (Talk task) = call_low list task
low list (Asked ask) = 2
low list (Fail code) = 0

-- the jobs that take units on every way to their end
abbrev pub spends : Job → Bool
spends (RunStatements ss) = false
spends (RunStatement s) = false
spends (Evaluate e) = false
spends (EvaluateRow what vs es) = false
spends (ReadMember of key) = false
spends (SetMember of key v) = false
spends (DefineMember of key v hidden) = false
spends (DefineAccessor of key getter setter) = false
spends (DeleteMember of key) = false
spends (CallValue f this args) = true
spends (ConstructValue f args) = true
spends (Talk task) = talk_spends task
spends (Asked ask) = ask_spends ask
spends (Fail code) = true

abbrev pub ranks : DefsTerm → Ranks Job Action
ranks list = record { pays = pays; high = high; low = low list; spends = spends }
