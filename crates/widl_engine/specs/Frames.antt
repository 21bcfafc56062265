-- What the parts of a machine still do, as the steps of rules: places become trees, numbers of names texts. No rule names any of it.
use Rattle.std.specs.Prelude.{ℕ, [], false, length, map, option_map}
use Rattle.widl_dialog.specs.Dialog.{End, Say, Steps}
use Rattle.widl_idl.specs.DefinitionTerms.{DefsTerm, defs_term}
use Rattle.widl_idl.specs.MergedSets.{MergedSet}
use Rattle.widl_value.specs.declared.value.Value.{Value}
use Rattle.widl_value.specs.declared.value.Value.TheVariants as values
use Rattle.widl_script_tree.specs.Tables.{Tables, expression_tree, expressions_tree, statement_tree, statements_tree, script_tree, name_at, key_at, function_at}
use Rattle.widl_trace.specs.declared.event.Event.{Event}
use Rattle.widl_trace.specs.declared.event.Event.TheVariants as events
use Rattle.widl_trace.specs.EventTerms.{event_term}
use Rattle.widl_dialog.specs.Position.{At}
use Rattle.widl_store.specs.Plans.{Plan}
use Rattle.widl_steps.specs.AskTerms.{answer_term, ask_term, change_term, new_term}
use Rattle.widl_steps.specs.CallTasks.{Function}
use Rattle.widl_steps.specs.Operations.{lines_of}
use Rattle.widl_convert.specs.Frames.{end_of}
use Rattle.widl_calls.specs.Stack.{call_rest}
use Rattle.widl_runs.specs.Ends.{JobEnd, Normal, Returned, Thrown, Talked, Seen, answer_by}
use Rattle.widl_runs.specs.Asks.{in_world, sees}
use Rattle.widl_runs.specs.Worlds.{function_context, builtin_context}
use Rattle.widl_runs.specs.Actions.{ordinary, script_function, type_error, plan_of, Body, ScriptBody, BuiltinBody, NoBody, Action, Pay, Write, TestDepth, Enter, Leave, FindBody, ReadThis, ReadName, BindName, TakeSymbol, AddObject, FindProperty, PutProperty, DefineProperty, DeleteProperty, FindKeys, FindOwn, FindInner, ChangePart, Reach, Reply, sight_seen, keys_seen, own_seen}
use Rattle.widl_runs.specs.Jobs.{Program, KeyPart, Named, Computed, MemberUse, ForRead, ForCall, ForSet, ForDefine, ForAccessor, ForDelete, RowUse, ForArguments, ForNew, ForItems, Job, RunStatements, RunStatement, Evaluate, EvaluateRow, ReadMember, SetMember, DefineMember, DefineAccessor, DeleteMember, CallValue, ConstructValue, Talk, Asked, Fail, Doing, nothing, value, drops, gives, reaches, not_yet_end}
use Rattle.widl_runs.specs.Errors.{new_error, made_error}
use Rattle.widl_runs.specs.Calls.{body, closes, function_in}
use Rattle.widl_runs.specs.Members.{calls_with, sets, defines, with_getter, defines_accessor, with_name, with_key, evaluates_key, reads, found, has_put, has_defined, has_deleted}
use Rattle.widl_runs.specs.Expressions.{gives_object, adds, takes_symbol, object_of, next_in_row, evaluates_this, with_this, constructs_with}
use Rattle.widl_runs.specs.Statements.{done, binds, binds_object, new_function, begins_handler, caught, chooses, compares, returns, throws, shows, performs, next_statements}
use Rattle.widl_runs.specs.Rules.{rule}
use Rattle.widl_runs.specs.Traces.{last_line}
use Rattle.widl_engine.specs.AskKinds.{ask_kind_of}
use Rattle.widl_engine.specs.Calling.{begins_builtin, begins_function, call_line, found_body, found_constructor, new_line, talked}
use Rattle.widl_engine.specs.declared.ends.Completion.{Completion}
use Rattle.widl_engine.specs.declared.ends.Completion.TheVariants as completions
use Rattle.widl_engine.specs.declared.ends.JobEnd as job_ends
use Rattle.widl_engine.specs.declared.ends.JobEnd.TheVariants as job_end
use Rattle.widl_engine.specs.declared.jobs.KeyPart as key_parts
use Rattle.widl_engine.specs.declared.jobs.KeyPart.TheVariants as key_part
use Rattle.widl_engine.specs.declared.jobs.MemberUse as member_uses
use Rattle.widl_engine.specs.declared.jobs.MemberUse.TheVariants as member_use
use Rattle.widl_engine.specs.declared.jobs.RowUse as row_uses
use Rattle.widl_engine.specs.declared.jobs.RowUse.TheVariants as row_use
use Rattle.widl_engine.specs.declared.jobs.Job as jobs
use Rattle.widl_engine.specs.declared.jobs.Job.TheVariants as job
use Rattle.widl_engine.specs.declared.due.Body as bodies
use Rattle.widl_engine.specs.declared.due.Body.TheVariants as body_code
use Rattle.widl_engine.specs.declared.due.NewObject.{NewObject}
use Rattle.widl_engine.specs.declared.due.NewObject.TheVariants as new
use Rattle.widl_engine.specs.declared.due.Made.{Made}
use Rattle.widl_engine.specs.declared.due.Made.TheVariants as made
use Rattle.widl_engine.specs.declared.due.Then.{Then}
use Rattle.widl_engine.specs.declared.due.Then.TheVariants as then_what
use Rattle.widl_engine.specs.declared.due.Due.{Due}
use Rattle.widl_engine.specs.declared.due.Due.TheVariants as due
use Rattle.widl_engine.specs.declared.charges.Unit as units
use Rattle.widl_engine.specs.declared.charges.Unit.TheVariants as unit
use Rattle.widl_engine.specs.declared.charges.AfterLine.{AfterLine}
use Rattle.widl_engine.specs.declared.charges.AfterLine.TheVariants as line
use Rattle.widl_engine.specs.declared.charges.Charge.{Charge}
use Rattle.widl_engine.specs.declared.charges.Charge.TheVariants as charge
use Rattle.widl_engine.specs.declared.frames.ValueFrame.{ValueFrame}
use Rattle.widl_engine.specs.declared.frames.ValueFrame.TheVariants as goes_on
use Rattle.widl_engine.specs.declared.frames.Frame.{Frame}
use Rattle.widl_engine.specs.declared.frames.Frame.TheVariants as frame
use Rattle.widl_engine.specs.declared.moves.Move.{Move}
use Rattle.widl_engine.specs.declared.moves.Move.TheVariants as move

-- 1. The program

-- the list of definitions that a script is run over
abbrev pub list_of : MergedSet → DefsTerm
list_of set = defs_term set.defs

abbrev pub program_of : MergedSet → Tables → Program
program_of set s = record { list = list_of set; script = script_tree s }

-- 2. Jobs

abbrev pub key_part_of : Tables → key_parts.KeyPart → KeyPart
key_part_of s (key_part.Named name) = Named (key_at s name)
key_part_of s (key_part.Computed v) = Computed v.value

abbrev pub member_use_of : Tables → member_uses.MemberUse → MemberUse
member_use_of s member_use.Read = ForRead
member_use_of s (member_use.Call args) = ForCall (expressions_tree s args)
member_use_of s (member_use.Set place) = ForSet (expression_tree s place)
member_use_of s (member_use.Define place hidden) = ForDefine (expression_tree s place) hidden
member_use_of s (member_use.Accessor getter setter) = ForAccessor (expression_tree s getter) (option_map (expression_tree s) setter)
member_use_of s member_use.Delete = ForDelete

abbrev pub row_use_of : row_uses.RowUse → RowUse
row_use_of (row_use.Arguments calling) = ForArguments calling.value.f calling.value.this
row_use_of (row_use.New f) = ForNew f.value
row_use_of row_use.Items = ForItems

abbrev pub job_of : Tables → jobs.Job → Job
job_of s (job.Statements row) = RunStatements (statements_tree s row)
job_of s (job.Statement place) = RunStatement (statement_tree s place)
job_of s (job.Evaluate place) = Evaluate (expression_tree s place)
job_of s (job.Row what vs row) = EvaluateRow (row_use_of what) vs (expressions_tree s row)
job_of s (job.Read of key) = ReadMember of (key_part_of s key)
job_of s (job.Set member v) = SetMember member.value.of (key_part_of s member.value.key) v
job_of s (job.Define member hidden v) = DefineMember member.value.of (key_part_of s member.value.key) v hidden
job_of s (job.Accessor member parts) = DefineAccessor member.value.of (key_part_of s member.value.key) parts.value.getter parts.value.setter
job_of s (job.Delete of key) = DeleteMember of (key_part_of s key)
job_of s (job.Call calling args) = CallValue calling.value.f calling.value.this args
job_of s (job.Construct f args) = ConstructValue f.value args
job_of s (job.Function call) = Talk (Function call.value.f call.value.what call.value.this call.value.args false)
job_of s (job.Asked ask) = Asked (ask_term ask.value)
job_of s (job.Fail code) = Fail code

-- the ends of jobs
abbrev pub completion_end : Completion → JobEnd
completion_end (completions.Normal v) = Normal v
completion_end (completions.Returned v) = Returned v
completion_end (completions.Thrown v) = Thrown v

abbrev pub job_end_of : job_ends.JobEnd → JobEnd
job_end_of (job_end.Completed c) = completion_end c
job_end_of (job_end.Talked ending) = Talked (end_of ending)
job_end_of (job_end.Seen answer) = Seen (answer_term answer)

-- 3. What comes after a charge

abbrev pub body_of : bodies.Body → Body
body_of (body_code.Script number) = ScriptBody number
body_of (body_code.Builtin function) = BuiltinBody function
body_of body_code.Nothing = NoBody

-- how many parameters a function has
abbrev pub parameters_of : Tables → ℕ → ℕ
parameters_of s number = length (map (name_at s) (function_at s number).params)

abbrev pub after_unit : Tables → units.Unit → Doing
after_unit s (unit.Statement place) = performs (statement_tree s place)
after_unit s unit.Symbol = takes_symbol
after_unit s (unit.Object proto) = adds (ordinary proto)
after_unit s (unit.Function number) = new_function number (name_at s (function_at s number).name) (parameters_of s number)
after_unit s unit.Asked = nothing
after_unit s (unit.New what) = adds (plan_of (new_term what))
after_unit s (unit.Fail code) = new_error code

-- what a call does after its line; no other line comes before it
abbrev pub enters_by : Program → bodies.Body → Event → Doing
enters_by p b (events.Call f this args) = body p f this args closes (body_of b)
enters_by p b _ = nothing

-- the property of the line is read, the keys of its object are listed, its own property is looked at
abbrev pub gets_by : Event → Doing
gets_by (events.Get object key) = reads object key
gets_by _ = nothing

abbrev pub keys_by : Event → Doing
keys_by (events.Keys object) = Say (FindKeys object) (sees keys_seen)
keys_by _ = nothing

abbrev pub own_by : Event → Doing
own_by (events.Own object key) = Say (FindOwn object key) (sees own_seen)
own_by _ = nothing

-- a completion after the context of the call is left
abbrev pub left_with : Completion → Reply → Doing
left_with c r = End (completion_end c)

abbrev pub leaves_with : Completion → Doing
leaves_with c = Say Leave (left_with c)

abbrev pub leaves_by : Event → Doing
leaves_by (events.Ret v) = leaves_with (completions.Normal v)
leaves_by (events.Thr v) = leaves_with (completions.Thrown v)
leaves_by _ = nothing

abbrev pub throws_by : Event → Doing
throws_by (events.Error object code) = End (Thrown (values.Obj object))
throws_by _ = nothing

abbrev pub ends_by : Event → Doing
ends_by (events.Uncaught v) = End (Thrown v)
ends_by _ = nothing

abbrev pub after_line : Program → Tables → Event → AfterLine → Doing
after_line p s e line.Shown = nothing
after_line p s e (line.Enters b) = enters_by p b e
after_line p s e line.Constructs = reaches not_yet_end
after_line p s e line.Gets = gets_by e
after_line p s e line.Keys = keys_by e
after_line p s e line.Own = own_by e
after_line p s e line.Leaves = leaves_by e
after_line p s e line.Throws = throws_by e
after_line p s e (line.Ends end) = End (job_end_of end.value)
after_line p s e line.EndsThrown = ends_by e

abbrev pub charge_of : Charge → Action
charge_of (charge.Unit u) = Pay
charge_of (charge.Line e then) = Write (event_term e)

abbrev pub after_charge : Program → Tables → Charge → Doing
after_charge p s (charge.Unit u) = after_unit s u
after_charge p s (charge.Line e then) = after_line p s e then

-- 4. What comes after any other action

abbrev pub new_of : Tables → NewObject → Plan
new_of s (new.Ordinary proto) = ordinary proto
new_of s (new.Function number) = script_function number (name_at s (function_at s number).name) (parameters_of s number)
new_of s new.Error = type_error
new_of s (new.Asked what) = plan_of (new_term what)

abbrev pub act_of : Program → Tables → Due → Action
act_of p s (due.Depth f this args b) = TestDepth
act_of p s (due.DepthOfNew f args) = TestDepth
act_of p s (due.Enter number this args) = Enter (function_context (function_in p.script number) this args)
act_of p s (due.EnterBuiltin f function this args) = Enter (builtin_context this)
act_of p s (due.Leave c) = Leave
act_of p s (due.FindBody f this args) = FindBody f
act_of p s (due.FindConstructor f args) = FindBody f
act_of p s due.ReadThis = ReadThis
act_of p s (due.ReadName name) = ReadName (name_at s name)
act_of p s (due.Bind name v then) = BindName (name_at s name) v
act_of p s due.TakeSymbol = TakeSymbol
act_of p s (due.Add object then) = AddObject (new_of s object)
act_of p s (due.Find object key) = FindProperty object key
act_of p s (due.Put object key v) = PutProperty object key v
act_of p s (due.Define object key prop) = DefineProperty object key prop
act_of p s (due.Delete object key) = DeleteProperty object key
act_of p s (due.FindKeys object) = FindKeys object
act_of p s (due.FindOwn object key) = FindOwn object key
act_of p s (due.Look object what) = FindInner object
act_of p s (due.Change object change) = ChangePart object (change_term change)
act_of p s (due.Reach end) = Reach end

abbrev pub after_add : Tables → Made → Reply → Doing
after_add s made.Value = gives_object
after_add s (made.Bound name) = binds_object (name_at s name)
after_add s (made.Error code) = made_error code

abbrev pub after_bind : Tables → Then → Reply → Doing
after_bind s then_what.Ends = done
after_bind s (then_what.Handles row) = begins_handler (statements_tree s row)

-- the reply isn't used
abbrev pub reached : Reply → Doing
reached r = nothing

abbrev pub after : Program → Tables → Due → Reply → Doing
after p s (due.Depth f this args b) = call_line p f this args (body_of b)
after p s (due.DepthOfNew f args) = new_line f args
after p s (due.Enter number this args) = begins_function (function_in p.script number)
after p s (due.EnterBuiltin f function this args) = begins_builtin f function this args
after p s (due.Leave c) = left_with c
after p s (due.FindBody f this args) = found_body p f this args
after p s (due.FindConstructor f args) = found_constructor f args
after p s due.ReadThis = gives
after p s (due.ReadName name) = gives
after p s (due.Bind name v then) = after_bind s then
after p s due.TakeSymbol = gives
after p s (due.Add object then) = after_add s then
after p s (due.Find object key) = found object
after p s (due.Put object key v) = has_put object
after p s (due.Define object key prop) = has_defined
after p s (due.Delete object key) = has_deleted
after p s (due.FindKeys object) = sees keys_seen
after p s (due.FindOwn object key) = sees own_seen
after p s (due.Look object what) = sees (sight_seen what)
after p s (due.Change object change) = reached
after p s (due.Reach end) = reached

-- 5. What comes after the end of a job

abbrev pub value_to : Tables → ValueFrame → Value → Doing
value_to s (goes_on.NextStatements row) = next_statements (statements_tree s row)
value_to s goes_on.Drops = drops
value_to s (goes_on.Binds name) = binds (name_at s name)
value_to s goes_on.Returns = returns
value_to s goes_on.Throws = throws
value_to s goes_on.Shows = shows
value_to s (goes_on.Compares right met unmet) = compares (expression_tree s right) (statements_tree s met) (statements_tree s unmet)
value_to s (goes_on.Chooses left met unmet) = chooses left (statements_tree s met) (statements_tree s unmet)
value_to s (goes_on.Name what name) = with_name (member_use_of s what) (key_at s name)
value_to s (goes_on.Key what key) = evaluates_key (member_use_of s what) (expression_tree s key)
value_to s (goes_on.KeyOf what of) = with_key (member_use_of s what) of
value_to s (goes_on.Calls this args) = calls_with this (expressions_tree s args)
value_to s (goes_on.Sets member) = sets member.value.of (key_part_of s member.value.key)
value_to s (goes_on.Defines member hidden) = defines member.value.of (key_part_of s member.value.key) hidden
value_to s (goes_on.Getter member setter) = with_getter member.value.of (key_part_of s member.value.key) (option_map (expression_tree s) setter)
value_to s (goes_on.Setter member getter) = defines_accessor member.value.of (key_part_of s member.value.key) getter
value_to s goes_on.Prototype = object_of
value_to s (goes_on.InRow what vs rest) = next_in_row (row_use_of what) vs (expressions_tree s rest)
value_to s (goes_on.This this args) = evaluates_this (expression_tree s this) (expressions_tree s args)
value_to s (goes_on.ThisOf f args) = with_this f (expressions_tree s args)
value_to s (goes_on.Constructs args) = constructs_with (expressions_tree s args)

-- a conversation goes on with the answer that the end of the work of its ask makes
abbrev pub back_to : Program → Tables → Frame → JobEnd → Doing
back_to p s (frame.Value f) = value (value_to s f)
back_to p s (frame.Catches name handler) = caught (name_at s name) (statements_tree s handler)
back_to p s frame.Called = closes
back_to p s frame.Talked = talked
back_to p s (frame.Suspended x) = λ end. in_world (call_rest p.list (lines_of p.list p.script) x.asker.value (answer_by (ask_kind_of x.kind) end))
back_to p s frame.Last = last_line

-- 6. Moves

-- what comes after a charge needs no reply
abbrev pub after_paying : Program → Tables → Charge → Reply → Doing
after_paying p s c r = after_charge p s c

abbrev pub move_of : Program → Tables → Move → Doing
move_of p s (move.Pays c) = Say (charge_of c) (after_paying p s c)
move_of p s (move.Acts a) = Say (act_of p s a) (after p s a)
move_of p s (move.Gives end) = End (job_end_of end)
move_of p s (move.Steps f j) = Steps (job_of s j) (back_to p s f)
move_of p s (move.Goes j) = Steps (job_of s j) End

-- no reply stands against it
abbrev pub Wants : Action → Reply → Type 0
Wants q r = Unit {0}

-- jobs alone lead from the steps to the next move
abbrev pub LeadsTo : Program → Tables → Doing → Move → Type 0
LeadsTo p s d next = At (rule p) Wants d [] (move_of p s next)
