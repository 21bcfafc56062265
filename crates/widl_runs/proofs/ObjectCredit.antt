-- A job adds no more objects and symbols than the units that it takes: one unit is paid for each before it is added.
use Rattle.std.proofs.Common.{◌≡◌, ℕ, ◌+◌, ◌-◌, ◌≤◌, Bool, true, false, List, [], ◌∷◌, ◌++◌, Option, Some, None, length, sum_by, arith, refl, ap, ◌∙◌, if◌then◌else◌}
use Rattle.std.specs.declared.result.Result.{Result}
use Rattle.std.specs.declared.result.Result.TheVariants as results
use Rattle.widl_dialog.specs.Dialog.{End, Say, Steps}
use Rattle.widl_text.specs.declared.key.Key.{Key}
use Rattle.widl_value.specs.declared.object.ObjRef.{ObjRef}
use Rattle.widl_value.specs.declared.object.Shape.{Shape}
use Rattle.widl_value.specs.declared.object.Shape.TheVariants as shapes
use Rattle.widl_value.specs.declared.value.Value.{Value}
use Rattle.widl_value.specs.declared.value.Value.TheVariants as values
use Rattle.widl_store.specs.declared.effects.DefineFault.{DefineFault}
use Rattle.widl_store.specs.declared.effects.DefineFault.TheVariants as defining
use Rattle.widl_store.specs.declared.effects.NotConfigurable as refusal
use Rattle.widl_store.specs.declared.effects.Put.{Put}
use Rattle.widl_store.specs.declared.effects.Put.TheVariants as puts
use Rattle.widl_store.specs.declared.effects.PutFault.{PutFault}
use Rattle.widl_store.specs.declared.effects.PutFault.TheVariants as putting
use Rattle.widl_store.specs.declared.inner.Builtin.{Builtin}
use Rattle.widl_store.specs.declared.inner.Builtin.TheVariants as builtins
use Rattle.widl_store.specs.declared.property.Prop.{Prop}
use Rattle.widl_store.specs.declared.property.Prop.TheVariants as props
use Rattle.widl_script_tree.specs.Trees.{Text, ExpressionTree, UndefinedT, NullT, ThisT, NewSymbolT, NewObjectT, BoolT, NumberT, TextT, NameT, SymbolT, ObjectOfT, NewArrayT, MemberT, IndexT, CallT, NewT, CallWithT, ExpressionTrees, none, more, MemberTree, NamedT, ComputedT, StatementTree, LetT, DoT, ReturnT, ThrowT, ShowT, SetT, DefineT, DefineAccessorT, DeleteT, TryT, IfT, FunctionT, StepsT, StatementTrees, no_statements, then_more}
use Rattle.widl_steps.specs.AskTerms.{AskTerm, GetAsk, CallAsk, UnitAsk, NoteAsk, OwnKeysAsk, OwnAsk, LookAsk, NewAsk, NewArray, ChangeAsk, ChangeTerm}
use Rattle.widl_steps.specs.Tasks.{TaskEnd, Gives, Plain, Picks, Throw, Rethrow, Profile}
use Rattle.widl_steps.specs.BuiltCalls.{calls_built_today}
use Rattle.widl_steps.specs.CallRules.{call_rule}
use Rattle.widl_steps.specs.CallTasks.{CallTalk}
use Rattle.widl_steps.specs.Operations.{lines_of}
use Rattle.widl_runs.specs.Ends.{JobEnd, Normal, Returned, Thrown, Talked, Seen, answer_of, task_end_in}
use Rattle.widl_runs.specs.Asks.{asks, in_world}
use Rattle.widl_runs.specs.Actions.{Action, Pay, Write, TestDepth, Enter, Leave, FindBody, ReadThis, ReadName, BindName, TakeSymbol, AddObject, FindProperty, PutProperty, DefineProperty, DeleteProperty, FindKeys, FindOwn, FindInner, ChangePart, Reach, Reply, body_in, property_in, put_result_in, define_result_in, delete_result_in, Body, ScriptBody, BuiltinBody, NoBody}
use Rattle.widl_runs.specs.Jobs.{Program, KeyPart, Named, Computed, MemberUse, ForRead, ForCall, RowUse, ForArguments, ForNew, ForItems, Job, RunStatements, RunStatement, Evaluate, EvaluateRow, ReadMember, SetMember, DefineMember, DefineAccessor, DeleteMember, CallValue, ConstructValue, Talk, Asked, Fail, Doing, value}
use Rattle.widl_runs.specs.Calls.{if_callable, callable, call, construct_body, construct}
use Rattle.widl_runs.specs.Members.{uses, member, key_of, if_key, tested, read_value, put_done, define_done, defines_parts, tests_setter, delete_done}
use Rattle.widl_runs.specs.Expressions.{object_of, row_done, evaluate_row, call_tree, evaluate}
use Rattle.widl_runs.specs.Statements.{run_statement, run_statements}
use Rattle.widl_runs.specs.Rules.{rule}
use Rattle.std.specs.Prelude.{nat_lt, slice_get, slice_set}
use Rattle.std.specs.Option.{option_map_or}
use Rattle.std.proofs.lemmas.Bool.{ltb-false}
use Rattle.std.proofs.lemmas.List.Sums.{sum_by-append}
use Rattle.std.proofs.lemmas.List.{length-set, length-append, length-map}
use Rattle.widl_dialog.specs.Credit.{MovesLevel, Owes, Balanced}
use Rattle.widl_dialog.specs.Runs.{Did, Went, Stops, Finish, Ended, Halted}
use Rattle.widl_dialog.proofs.Crediting.{more_credit, level_kept, none_rises}
use Rattle.widl_text.specs.Limits.{most_open_calls}
use Rattle.widl_idl.specs.DefinitionTerms.{DefsTerm}
use Rattle.widl_store.specs.Inners.{InnerTerm}
use Rattle.widl_store.specs.Objects.{Obj, own_at, prop_at, without_prop}
use Rattle.widl_store.specs.Plans.{Plan}
use Rattle.widl_store.specs.Effects.{with_props, placed, plain_with, put_in, defined, delete_of, deleted, added, with_part, with_inner}
use Rattle.widl_script_tree.specs.Trees.{ScriptTree}
use Rattle.widl_runs.specs.declared.stop.Stop.{Stop}
use Rattle.widl_runs.specs.declared.stop.Stop.TheVariants as stops
use Rattle.widl_runs.specs.Worlds.{World, is_local, with_local, with_value}
use Rattle.widl_runs.specs.Actions.{IsDone, inner_at, changed_part, event_cost, put_result, define_result, is_put, is_made, with_store, act, with_properties, with_new, ObjectPrototype, prototype, ordinary, plan_of}
use Rattle.widl_runs.specs.Jobs.{ForSet, ForDefine, ForAccessor, ForDelete, reaches}
use Rattle.widl_runs.specs.Calls.{body, by_talk, closes}
use Rattle.widl_runs.specs.Members.{with_getter}
use Rattle.widl_runs.specs.Expressions.{adds}
use Rattle.widl_runs.specs.Statements.{caught, performs, same_value}
use Rattle.widl_runs.specs.Traces.{whole, first_world, stop_events, Ending, IsTrace, taken_in}
use Rattle.widl_trace.specs.EventTerms.{EventTerm}
use Rattle.widl_trace.specs.EventLines.{line_of}
use Rattle.widl_store.specs.Realm.{realm_of}
use Rattle.widl_runs.proofs.LineCosts.{lines_are_paid}
use Rattle.widl_runs.specs.Laws.{ObjectsArePaid, SymbolsArePaid, TracesArePaid, count_of_objects}

-- 1. Each action

abbrev pub gives : Action → ℕ
gives Pay = 1
gives _ = 0

abbrev new_objects : Action → ℕ
new_objects (AddObject new) = 1
new_objects _ = 0

abbrev new_symbols : Action → ℕ
new_symbols TakeSymbol = 1
new_symbols _ = 0

abbrev pub takes : Action → ℕ
takes q = new_objects q + new_symbols q

-- what an action that goes adds and leaves
record Counts (q : Action) (w v : World) : Type 0 where
  objects : count_of_objects v ≡ count_of_objects w + new_objects q
  symbols : v.next_symbol ≡ w.next_symbol + new_symbols q
  units : v.units + gives q ≤ w.units

abbrev Counted : Action → World → Did World Reply Stop → Type 0
Counted q w (Went v r) = Counts q w v
Counted q w (Stops s) = Unit {0}

changed_length : (objects : List Obj) (id : ℕ) (change : Obj → List (Key × Prop)) (o : Option Obj) → length (option_map_or (λ x. slice_set objects id (with_props x (change x))) o objects) ≡ length objects
changed_length objects id change None = refl
changed_length objects id change (Some o) = length-set objects id (with_props o (change o))

defined_length : (objects : List Obj) (id : ℕ) (key : Key) (prop : Prop) → length (defined objects id key prop) ≡ length objects
defined_length objects id key prop = changed_length objects id (λ o. placed o key prop) (slice_get objects id)

put_length : (objects : List Obj) (id : ℕ) (key : Key) (v : Value) → length (put_in objects id key v) ≡ length objects
put_length objects id key v = changed_length objects id (λ o. placed o key (plain_with v (prop_at o.props key))) (slice_get objects id)

deleted_length : (objects : List Obj) (id : ℕ) (key : Key) → length (deleted objects id key) ≡ length objects
deleted_length objects id key = changed_length objects id (λ o. without_prop o.props key) (slice_get objects id)

properties_length : (objects : List Obj) (id : ℕ) (entries : List (Key × Prop)) → length (with_properties objects id entries) ≡ length objects
properties_length objects id [] = refl
properties_length objects id (entry ∷ entries) = properties_length (defined objects id entry.0 entry.1) id entries ∙ defined_length objects id entry.0 entry.1

new_length : (objects : List Obj) (plan : Plan) → length (with_new objects plan) ≡ length objects + 1
new_length objects plan = properties_length (added objects plan.proto plan.shape plan.inner) (length objects) plan.entries ∙ length-append objects _

inner_length : (objects : List Obj) (id : ℕ) (inner : InnerTerm) (o : Option Obj) → length (option_map_or (λ x. slice_set objects id (with_part x inner)) o objects) ≡ length objects
inner_length objects id inner None = refl
inner_length objects id inner (Some o) = length-set objects id (with_part o inner)

part_length : (objects : List Obj) (object : ObjRef) (change : ChangeTerm) (inner : Option InnerTerm) → length (option_map_or (λ x. with_inner objects object.id (changed_part change x)) inner objects) ≡ length objects
part_length objects object change None = refl
part_length objects object change (Some inner) = inner_length objects object.id (changed_part change inner) (slice_get objects object.id)

pay_counts : (b : Bool) (w : World) → nat_lt w.units 1 ≡ b → Counted Pay w (if b then Stops stops.Budget else Went (record w { units = w.units - 1 }) IsDone)
pay_counts true w test = tt
pay_counts false w test = let enough = ltb-false w.units 1 test in record { objects = omega arith; symbols = omega arith; units = omega (arith, enough) }

write_counts : (b : Bool) (w : World) (event : EventTerm) (cost : ℕ) → Counted (Write event) w (if b then Stops stops.Budget else Went (record w { units = w.units - cost; lines = w.lines ++ event ∷ [] }) IsDone)
write_counts true w event cost = tt
write_counts false w event cost = record { objects = omega arith; symbols = omega arith; units = omega arith }

deep_counts : (b : Bool) (w : World) → Counted TestDepth w (if b then Went w IsDone else Stops stops.Depth)
deep_counts true w = record { objects = omega arith; symbols = omega arith; units = omega arith }
deep_counts false w = tt

-- an action that adds nothing and takes nothing, whether it is made or not
made_counts : (b : Bool) (q : Action) (w : World) (objects : List Obj) → length objects ≡ length w.store.objects → gives q ≡ 0 → new_objects q ≡ 0 → new_symbols q ≡ 0 → Counts q w (if b then with_store w objects else w)
made_counts true q w objects e g o s = record { objects = omega (arith, e, o); symbols = omega (arith, s); units = omega (arith, g) }
made_counts false q w objects e g o s = record { objects = omega (arith, o); symbols = omega (arith, s); units = omega (arith, g) }

bound_counts : (b : Bool) (w : World) (name : Text) (v : Value) → Counts (BindName name v) w (if b then record w { contexts = with_local w.contexts name v } else record w { globals = with_value w.globals name v })
bound_counts true w name v = record { objects = omega arith; symbols = omega arith; units = omega arith }
bound_counts false w name v = record { objects = omega arith; symbols = omega arith; units = omega arith }

counts : (list : DefsTerm) (q : Action) (w : World) → Counted q w (act list q w)
counts list Pay w = pay_counts (nat_lt w.units 1) w refl
counts list (Write event) w = write_counts (nat_lt w.units (event_cost list event)) w event (event_cost list event)
counts list TestDepth w = deep_counts (nat_lt (length w.contexts) most_open_calls) w
counts list (Enter context) w = record { objects = omega arith; symbols = omega arith; units = omega arith }
counts list Leave w = record { objects = omega arith; symbols = omega arith; units = omega arith }
counts list (FindBody object) w = record { objects = omega arith; symbols = omega arith; units = omega arith }
counts list ReadThis w = record { objects = omega arith; symbols = omega arith; units = omega arith }
counts list (ReadName name) w = record { objects = omega arith; symbols = omega arith; units = omega arith }
counts list (BindName name v) w = bound_counts (is_local w.contexts name) w name v
counts list TakeSymbol w = record { objects = omega arith; symbols = omega arith; units = omega arith }
counts list (AddObject new) w = let e = new_length w.store.objects new in record { objects = omega (arith, e); symbols = omega arith; units = omega arith }
counts list (FindProperty object key) w = record { objects = omega arith; symbols = omega arith; units = omega arith }
counts list (PutProperty object key v) w = made_counts (is_put (put_result w.store.objects object key v)) (PutProperty object key v) w (put_in w.store.objects object.id key v) (put_length w.store.objects object.id key v) refl refl refl
counts list (DefineProperty object key prop) w = made_counts (is_made (define_result w.store.objects object key)) (DefineProperty object key prop) w (defined w.store.objects object.id key prop) (defined_length w.store.objects object.id key prop) refl refl refl
counts list (DeleteProperty object key) w = made_counts (is_made (delete_of (own_at w.store.objects object.id key))) (DeleteProperty object key) w (deleted w.store.objects object.id key) (deleted_length w.store.objects object.id key) refl refl refl
counts list (FindKeys object) w = record { objects = omega arith; symbols = omega arith; units = omega arith }
counts list (FindOwn object key) w = record { objects = omega arith; symbols = omega arith; units = omega arith }
counts list (FindInner object) w = record { objects = omega arith; symbols = omega arith; units = omega arith }
counts list (ChangePart object change) w = let e = part_length w.store.objects object change (inner_at w.store.objects object) in record { objects = omega (arith, e); symbols = omega arith; units = omega arith }
counts list (Reach end) w = tt

-- the objects with the units that are left, and both with the symbols
abbrev level : World → ℕ
level w = count_of_objects w + w.units

abbrev pub made_level : World → ℕ
made_level w = count_of_objects w + w.next_symbol + w.units

moves_did : (q : Action) (w : World) (did : Did World Reply Stop) → Counted q w did → MovesLevel level (gives q) (takes q) w did
moves_did q w (Went v r) c = let o = c.objects in let u = c.units in omega (arith, o, u)
moves_did q w (Stops s) c = tt

moves_made_did : (q : Action) (w : World) (did : Did World Reply Stop) → Counted q w did → MovesLevel made_level (gives q) (takes q) w did
moves_made_did q w (Went v r) c = let o = c.objects in let s = c.symbols in let u = c.units in omega (arith, o, s, u)
moves_made_did q w (Stops s) c = tt

moves : (list : DefsTerm) (q : Action) (w : World) → MovesLevel level (gives q) (takes q) w (act list q w)
moves list q w = moves_did q w (act list q w) (counts list q w)

pub moves_made : (list : DefsTerm) (q : Action) (w : World) → MovesLevel made_level (gives q) (takes q) w (act list q w)
moves_made list q w = moves_made_did q w (act list q w) (counts list q w)

-- 2. Each rule

abbrev IsFair : ℕ → Doing → Type 0
IsFair n d = Owes gives takes n d

-- with no credit, and so with a unit that was paid before
credited : (p : Program) (d : Doing) → IsFair 0 d → IsFair 1 d
credited p d x = more_credit (rule p) (act p.list) level gives takes d 0 1 (omega arith) x

fair_value : (k : Value → Doing) → ((v : Value) → IsFair 0 (k v)) → (c : JobEnd) → IsFair 0 (value k c)
fair_value k each (Normal v) = each v
fair_value k each (Returned v) = tt
fair_value k each (Thrown v) = tt
fair_value k each (Talked end) = tt
fair_value k each (Seen answer) = tt

fair_reaches : (end : ℕ) → IsFair 0 (reaches end)
fair_reaches end = (omega arith, λ r. tt)

-- an object that was paid for
fair_adds : (plan : Plan) → IsFair 1 (adds plan)
fair_adds new = (omega arith, λ r. tt)

fair_closes : (c : JobEnd) → IsFair 0 (closes c)
fair_closes c = (omega arith, λ a. (omega arith, λ b. tt))

fair_shape : (k : ObjRef → Doing) → ((o : ObjRef) → IsFair 0 (k o)) → (o : ObjRef) (s : Shape) → IsFair 0 (if_callable k o s)
fair_shape k each o shapes.Plain = λ r. tt
fair_shape k each o shapes.Callable = each o
fair_shape k each o (shapes.Platform iface) = λ r. tt

fair_callable : (k : ObjRef → Doing) → ((o : ObjRef) → IsFair 0 (k o)) → (v : Value) → IsFair 0 (callable k v)
fair_callable k each values.Undefined = λ r. tt
fair_callable k each values.Null = λ r. tt
fair_callable k each (values.Bool b) = λ r. tt
fair_callable k each (values.Num x) = λ r. tt
fair_callable k each (values.Str text) = λ r. tt
fair_callable k each (values.Sym id) = λ r. tt
fair_callable k each (values.Obj o) = fair_shape k each o o.shape

fair_by_talk : (r : TaskEnd) → IsFair 0 (by_talk closes r)
fair_by_talk (Gives w) = fair_closes (Returned values.Undefined)
fair_by_talk (Plain v) = fair_closes (Returned v)
fair_by_talk (Picks overload ws) = fair_closes (Returned values.Undefined)
fair_by_talk (Throw why) = fair_closes
fair_by_talk (Rethrow v) = fair_closes (Thrown v)
fair_by_talk (Profile end) = fair_reaches end

-- a conversation adds nothing but by its asks
fair_talk : (d : CallTalk) → IsFair 0 (in_world d)
fair_talk (End r) = tt
fair_talk (Say ask k) = λ end. fair_talk (k (answer_of ask end))
fair_talk (Steps t k) = λ end. fair_talk (k (task_end_in end))

fair_body : (p : Program) (f : ObjRef) (this : Value) (args : List Value) (b : Body) → IsFair 0 (body p f this args closes b)
fair_body p f this args (ScriptBody number) = (omega arith, λ r. fair_closes)
fair_body p f this args (BuiltinBody b) = (omega arith, λ r c. fair_by_talk (task_end_in c))
fair_body p f this args NoBody = fair_reaches 99

fair_call : (p : Program) (f this : Value) (args : List Value) → IsFair 0 (call p f this args)
fair_call p f this args = fair_callable _ (λ o. (omega arith, λ r. (omega arith, λ a. (omega arith, λ b. fair_body p o this args (body_in r))))) f

fair_new : (f : ObjRef) (args : List Value) (b : Builtin) → IsFair 0 (construct_body f args (BuiltinBody b))
fair_new f args (builtins.Intrinsic number) = λ r. tt
fair_new f args (builtins.Callee callee) = λ r. tt
fair_new f args (builtins.InterfaceObject iface) = (omega arith, λ a. (omega arith, λ b. (omega arith, λ c. tt)))
fair_new f args (builtins.Pairs iface what) = λ r. tt

fair_construct_body : (f : ObjRef) (args : List Value) (b : Body) → IsFair 0 (construct_body f args b)
fair_construct_body f args (ScriptBody number) = λ r. tt
fair_construct_body f args (BuiltinBody b) = fair_new f args b
fair_construct_body f args NoBody = λ r. tt

fair_construct : (f : Value) (args : List Value) → IsFair 0 (construct f args)
fair_construct values.Undefined args = λ r. tt
fair_construct values.Null args = λ r. tt
fair_construct (values.Bool b) args = λ r. tt
fair_construct (values.Num x) args = λ r. tt
fair_construct (values.Str text) args = λ r. tt
fair_construct (values.Sym id) args = λ r. tt
fair_construct (values.Obj f) args = (omega arith, λ r. fair_construct_body f args (body_in r))

fair_key : (k : Key → Doing) → ((key : Key) → IsFair 0 (k key)) → (key : Option Key) → IsFair 0 (if_key k key)
fair_key k each None = λ r. tt
fair_key k each (Some key) = each key

fair_tested : (k : ObjRef → Key → Doing) → ((o : ObjRef) (key : Key) → IsFair 0 (k o key)) → (v : Value) (key : KeyPart) → IsFair 0 (tested k v key)
fair_tested k each values.Undefined key = λ r. tt
fair_tested k each values.Null key = λ r. tt
fair_tested k each (values.Bool b) key = fair_reaches 4
fair_tested k each (values.Num x) key = fair_reaches 4
fair_tested k each (values.Str text) key = fair_reaches 4
fair_tested k each (values.Sym id) key = fair_reaches 4
fair_tested k each (values.Obj o) key = fair_key (k o) (each o) (key_of key)

fair_read : (o : ObjRef) (found : Option Prop) → IsFair 0 (read_value o found)
fair_read o None = tt
fair_read o (Some (props.Plain v flags)) = tt
fair_read o (Some (props.Accessor None setter flags)) = tt
fair_read o (Some (props.Accessor (Some getter) setter flags)) = λ r. tt

fair_put : (o : ObjRef) (answer : Result Put PutFault) → IsFair 0 (put_done o answer)
fair_put o (results.Ok puts.Done) = tt
fair_put o (results.Ok (puts.Setter setter v)) = λ c. fair_value _ (λ w. tt) c
fair_put o (results.Err (putting.ReadOnly flags)) = λ r. tt
fair_put o (results.Err putting.NoSetter) = λ r. tt
fair_put o (results.Err putting.Length) = fair_reaches 2
fair_put o (results.Err putting.Memory) = tt

fair_defined : (answer : Result (Unit {0}) DefineFault) → IsFair 0 (define_done answer)
fair_defined (results.Ok done) = tt
fair_defined (results.Err (defining.NotConfigurable flags)) = λ r. tt
fair_defined (results.Err defining.Length) = fair_reaches 2
fair_defined (results.Err defining.Memory) = tt

fair_deleted : (answer : Result (Unit {0}) refusal.NotConfigurable) → IsFair 0 (delete_done answer)
fair_deleted (results.Ok done) = tt
fair_deleted (results.Err fault) = λ r. tt

fair_parts : (o : ObjRef) (key : Key) (getter : ObjRef) (setter : Option ObjRef) → IsFair 0 (defines_parts o key getter setter)
fair_parts o key getter setter = (omega arith, λ r. fair_defined (define_result_in r))

fair_setter : (o : ObjRef) (key : Key) (setter : Option Value) (getter : ObjRef) → IsFair 0 (tests_setter o key setter getter)
fair_setter o key None getter = fair_parts o key getter None
fair_setter o key (Some setter) getter = fair_callable _ (λ s. fair_parts o key getter (Some s)) setter

fair_getter : (v : Value) (key : KeyPart) (setter : Option ExpressionTree) (g : Value) → IsFair 0 (with_getter v key setter g)
fair_getter v key None g = λ r. tt
fair_getter v key (Some setter) g = λ c. fair_value _ (λ s r. tt) c

fair_used : (what : MemberUse) (v : Value) (key : KeyPart) → IsFair 0 (uses what v key)
fair_used ForRead v key = λ r. tt
fair_used (ForCall args) v key = λ c. fair_value _ (λ f r. tt) c
fair_used (ForSet e) v key = λ c. fair_value _ (λ x r. tt) c
fair_used (ForDefine e hidden) v key = λ c. fair_value _ (λ x r. tt) c
fair_used (ForAccessor getter setter) v key = λ c. fair_value _ (λ g. fair_getter v key setter g) c
fair_used ForDelete v key = λ r. tt

fair_member : (what : MemberUse) (m : MemberTree) → IsFair 0 (member what m)
fair_member what (NamedT of name) = λ c. fair_value _ (λ v. fair_used what v (Named name)) c
fair_member what (ComputedT of key) = λ c. fair_value _ (λ v d. fair_value _ (λ k. fair_used what v (Computed k)) d) c

fair_object : (v : Value) → IsFair 0 (object_of v)
fair_object values.Undefined = λ r. tt
fair_object values.Null = (omega arith, λ r. fair_adds (ordinary None))
fair_object (values.Bool b) = λ r. tt
fair_object (values.Num x) = λ r. tt
fair_object (values.Str text) = λ r. tt
fair_object (values.Sym id) = λ r. tt
fair_object (values.Obj o) = (omega arith, λ r. fair_adds (ordinary (Some o)))

fair_done : (what : RowUse) (vs : List Value) → IsFair 0 (row_done what vs)
fair_done (ForArguments f this) vs = λ r. tt
fair_done (ForNew f) vs = λ r. tt
fair_done ForItems vs = (omega arith, λ r. fair_adds (plan_of (NewArray vs)))

fair_row : (what : RowUse) (vs : List Value) (es : ExpressionTrees) → IsFair 0 (evaluate_row what vs es)
fair_row what vs none = fair_done what vs
fair_row what vs (more e es) = λ c. fair_value _ (λ v r. tt) c

fair_tree : (f : ExpressionTree) (args : ExpressionTrees) → IsFair 0 (call_tree f args)
fair_tree (MemberT of name) args = fair_member (ForCall args) (NamedT of name)
fair_tree (IndexT of key) args = fair_member (ForCall args) (ComputedT of key)
fair_tree _ args = λ c. fair_value _ (λ v r. tt) c

fair_evaluate : (e : ExpressionTree) → IsFair 0 (evaluate e)
fair_evaluate UndefinedT = tt
fair_evaluate NullT = tt
fair_evaluate ThisT = (omega arith, λ r. tt)
fair_evaluate NewSymbolT = (omega arith, λ r. (omega arith, λ a. tt))
fair_evaluate NewObjectT = (omega arith, λ r. fair_adds (ordinary (Some (prototype ObjectPrototype))))
fair_evaluate (BoolT b) = tt
fair_evaluate (NumberT x) = tt
fair_evaluate (TextT text) = tt
fair_evaluate (NameT name) = (omega arith, λ r. tt)
fair_evaluate (SymbolT id) = tt
fair_evaluate (ObjectOfT proto) = λ c. fair_value _ fair_object c
fair_evaluate (NewArrayT es) = λ r. tt
fair_evaluate (MemberT of name) = fair_member ForRead (NamedT of name)
fair_evaluate (IndexT of key) = fair_member ForRead (ComputedT of key)
fair_evaluate (CallT f args) = fair_tree f args
fair_evaluate (NewT f args) = λ c. fair_value _ (λ v r. tt) c
fair_evaluate (CallWithT f t args) = λ c. fair_value _ (λ v d. fair_value _ (λ x r. tt) d) c

fair_chooses : (b : Bool) (met unmet : StatementTrees) → IsFair 0 (if b then Steps (RunStatements met) End else Steps (RunStatements unmet) End)
fair_chooses true met unmet = λ r. tt
fair_chooses false met unmet = λ r. tt

fair_caught : (name : Text) (handler : StatementTrees) (c : JobEnd) → IsFair 0 (caught name handler c)
fair_caught name handler (Normal v) = tt
fair_caught name handler (Returned v) = tt
fair_caught name handler (Thrown v) = (omega arith, λ a r. tt)
fair_caught name handler (Talked end) = tt
fair_caught name handler (Seen answer) = tt

fair_performs : (s : StatementTree) → IsFair 0 (performs s)
fair_performs (LetT name e) = λ c. fair_value _ (λ v. (omega arith, λ r. tt)) c
fair_performs (DoT e) = λ c. fair_value _ (λ v. tt) c
fair_performs (ReturnT e) = λ c. fair_value _ (λ v. tt) c
fair_performs (ThrowT e) = λ c. fair_value _ (λ v. tt) c
fair_performs (ShowT e) = λ c. fair_value _ (λ v. (omega arith, λ r. tt)) c
fair_performs (SetT m e) = fair_member (ForSet e) m
fair_performs (DefineT m e hidden) = fair_member (ForDefine e hidden) m
fair_performs (DefineAccessorT m getter setter) = fair_member (ForAccessor getter setter) m
fair_performs (DeleteT m) = fair_member ForDelete m
fair_performs (TryT body name handler) = fair_caught name handler
fair_performs (IfT left right met unmet) = λ c. fair_value _ (λ a d. fair_value _ (λ b. fair_chooses (same_value a b) met unmet) d) c
fair_performs (FunctionT number name params body) = (omega arith, λ a. (omega arith, λ b. (omega arith, λ d. tt)))
fair_performs (StepsT target lines) = tt

fair_paid : (p : Program) (s : StatementTree) → IsFair 0 (Say Pay (λ r. performs s))
fair_paid p s = (omega arith, λ r. credited p (performs s) (fair_performs s))

fair_statement : (p : Program) (s : StatementTree) → IsFair 0 (run_statement s)
fair_statement p (StepsT target lines) = tt
fair_statement p (LetT name e) = fair_paid p (LetT name e)
fair_statement p (DoT e) = fair_paid p (DoT e)
fair_statement p (ReturnT e) = fair_paid p (ReturnT e)
fair_statement p (ThrowT e) = fair_paid p (ThrowT e)
fair_statement p (ShowT e) = fair_paid p (ShowT e)
fair_statement p (SetT m e) = fair_paid p (SetT m e)
fair_statement p (DefineT m e hidden) = fair_paid p (DefineT m e hidden)
fair_statement p (DefineAccessorT m getter setter) = fair_paid p (DefineAccessorT m getter setter)
fair_statement p (DeleteT m) = fair_paid p (DeleteT m)
fair_statement p (TryT body name handler) = fair_paid p (TryT body name handler)
fair_statement p (IfT left right met unmet) = fair_paid p (IfT left right met unmet)
fair_statement p (FunctionT number name params body) = fair_paid p (FunctionT number name params body)

fair_statements : (ss : StatementTrees) → IsFair 0 (run_statements ss)
fair_statements no_statements = tt
fair_statements (then_more s ss) = λ c. fair_value _ (λ v r. tt) c

fair_ask : (ask : AskTerm) → IsFair 0 (asks ask)
fair_ask (GetAsk o key) = (omega arith, λ r. (omega arith, λ a. fair_read o (property_in a)))
fair_ask (CallAsk f this args) = λ c. tt
fair_ask UnitAsk = (omega arith, λ r. tt)
fair_ask (NoteAsk event) = (omega arith, λ r. tt)
fair_ask (OwnKeysAsk o) = (omega arith, λ r. (omega arith, λ a. tt))
fair_ask (OwnAsk o key) = (omega arith, λ r. (omega arith, λ a. tt))
fair_ask (LookAsk o what) = (omega arith, λ r. tt)
fair_ask (NewAsk new) = (omega arith, λ r. fair_adds (plan_of new))
fair_ask (ChangeAsk o change) = (omega arith, λ r. tt)

pub fair : (p : Program) (j : Job) → IsFair 0 (rule p j)
fair p (RunStatements ss) = fair_statements ss
fair p (RunStatement s) = fair_statement p s
fair p (Evaluate e) = fair_evaluate e
fair p (EvaluateRow what vs es) = fair_row what vs es
fair p (ReadMember of key) = fair_tested _ (λ o k. (omega arith, λ r. fair_read o (property_in r))) of key
fair p (SetMember of key v) = fair_tested _ (λ o k. (omega arith, λ r. fair_put o (put_result_in r))) of key
fair p (DefineMember of key v hidden) = fair_tested _ (λ o k. (omega arith, λ r. fair_defined (define_result_in r))) of key
fair p (DefineAccessor of key getter setter) = fair_tested _ (λ o k. fair_callable _ (λ g. fair_setter o k setter g) getter) of key
fair p (DeleteMember of key) = fair_tested _ (λ o k. (omega arith, λ r. fair_deleted (delete_result_in r))) of key
fair p (CallValue f this args) = fair_call p f this args
fair p (ConstructValue f args) = fair_construct f args
fair p (Talk task) = fair_talk (call_rule calls_built_today p.list (lines_of p.list p.script) task)
fair p (Asked ask) = fair_ask ask
fair p (Fail code) = (omega arith, λ a. (omega arith, λ b. (omega arith, λ c. tt)))

balanced : (p : Program) → Balanced (rule p) (act p.list) level gives takes
balanced p = record { moves = moves p.list; owes = fair p }

balanced_made : (p : Program) → Balanced (rule p) (act p.list) made_level gives takes
balanced_made p = record { moves = moves_made p.list; owes = fair p }

-- 3. Over a job, and over a whole run

pub objects_are_paid : (p : Program) → ObjectsArePaid p
objects_are_paid p = none_rises (rule p) (act p.list) level gives takes (balanced p)

pub symbols_are_paid : (p : Program) → SymbolsArePaid p
symbols_are_paid p = none_rises (rule p) (act p.list) made_level gives takes (balanced_made p)

pub fair_whole : (p : Program) → IsFair 0 (whole p)
fair_whole p = λ c. (omega arith, λ r. tt)

-- each line costs a unit or more
few_events : (list : DefsTerm) (events : List EventTerm) → length events ≤ sum_by (event_cost list) events
few_events list [] = omega arith
few_events list (e ∷ events) =
    let more = few_events list events in
    let step : sum_by (event_cost list) (e ∷ events) ≡ sum_by (event_cost list) (e ∷ []) + sum_by (event_cost list) events = sum_by-append (event_cost list) (e ∷ []) events in
    omega (arith, more, step)

one_stop : (f : Finish JobEnd Stop) → length (stop_events f) ≤ 1
one_stop (Ended c) = omega arith
one_stop (Halted s) = omega arith

few_lines : (list : DefsTerm) (script : ScriptTree) (budget : ℕ) (lines : List (List ℕ)) (end : Ending) (trace : IsTrace list script budget lines end) → length lines ≤ taken_in trace + 1
few_lines list script budget lines end trace =
    let p : Program = record { list = list; script = script } in
    let count = ap length trace.written in
    let as_events = length-map (trace.world.lines ++ stop_events trace.finish) (line_of list) in
    let both = length-append trace.world.lines (stop_events trace.finish) in
    let events = few_events list trace.world.lines in
    let stop = one_stop trace.finish in
    let paid = lines_are_paid p (whole p) (first_world (realm_of list) budget) trace.world trace.finish trace.runs in
    omega (arith, count, as_events, both, events, stop, paid)

pub traces_are_paid : (list : DefsTerm) (script : ScriptTree) (budget : ℕ) → TracesArePaid list script budget
traces_are_paid list script budget lines end trace =
    let p : Program = record { list = list; script = script } in
    let h = level_kept (rule p) (act list) level gives takes (balanced p) 0 (fair_whole p) trace.runs in
    let g = level_kept (rule p) (act list) made_level gives takes (balanced_made p) 0 (fair_whole p) trace.runs in
    record { few_objects = omega (arith, h); few_symbols = omega (arith, g); few_lines = few_lines list script budget lines end trace }
