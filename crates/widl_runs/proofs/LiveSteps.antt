-- For proofs alone. The steps of each job hold live references alone, where the job and all replies do.
use Rattle.std.proofs.Common.{ℕ, ap, subst, sym, ◌∙◌, ◌+◌, ◌<◌, ◌^◌, length-append, zero, suc, Bool, true, false, List, [], ◌∷◌, Option, Some, None, length, arith, if◌then◌else◌}
use Rattle.std.proofs.lemmas.Bool.{cond_both}
use Rattle.std.specs.Prelude.{All, IfSome, slice_index_or}
use Rattle.std.specs.Option.{option_map_or, unwrap_or}
use Rattle.std.specs.declared.result.Result.{Result}
use Rattle.std.specs.declared.result.Result.TheVariants as results
use Rattle.widl_dialog.specs.Dialog.{End, Say, Steps}
use Rattle.widl_text.specs.declared.key.Key.{Key}
use Rattle.widl_idl.specs.declared.callee.Callee.{Callee}
use Rattle.widl_value.specs.declared.object.ObjRef.{ObjRef}
use Rattle.widl_value.specs.declared.object.Shape.{Shape}
use Rattle.widl_value.specs.declared.object.Shape.TheVariants as shapes
use Rattle.widl_value.specs.declared.value.Value.{Value}
use Rattle.widl_value.specs.declared.value.Value.TheVariants as values
use Rattle.widl_store.specs.declared.effects.DefineFault.{DefineFault}
use Rattle.widl_store.specs.declared.effects.DefineFault.TheVariants as defining
use Rattle.widl_store.specs.declared.effects.NotConfigurable as refusal
use Rattle.widl_store.specs.declared.effects.Put.{Put}
use Rattle.widl_store.specs.declared.effects.Put.TheVariants as puts
use Rattle.widl_store.specs.declared.effects.PutFault.{PutFault}
use Rattle.widl_store.specs.declared.effects.PutFault.TheVariants as putting
use Rattle.widl_store.specs.declared.inner.Builtin.{Builtin}
use Rattle.widl_store.specs.declared.inner.Builtin.TheVariants as builtins
use Rattle.widl_store.specs.declared.property.Prop.{Prop}
use Rattle.widl_store.specs.declared.property.Prop.TheVariants as props
use Rattle.widl_store.specs.Inners.{InnerTerm, PlainPart}
use Rattle.widl_store.specs.Objects.{Obj, IsLive}
use Rattle.widl_store.specs.Plans.{Plan}
use Rattle.widl_script_tree.specs.Trees.{Text, ExpressionTree, UndefinedT, NullT, ThisT, NewSymbolT, NewObjectT, BoolT, NumberT, TextT, NameT, SymbolT, ObjectOfT, NewArrayT, MemberT, IndexT, CallT, NewT, CallWithT, ExpressionTrees, none, more, MemberTree, NamedT, ComputedT, StatementTree, LetT, DoT, ReturnT, ThrowT, ShowT, SetT, DefineT, DefineAccessorT, DeleteT, TryT, IfT, FunctionT, StepsT, StatementTrees, no_statements, then_more, FunctionTree}
use Rattle.widl_trace.specs.declared.code.Code.{Code}
use Rattle.widl_trace.specs.declared.code.Code.TheVariants as code
use Rattle.widl_steps.specs.declared.ask.Look.{Look}
use Rattle.widl_steps.specs.AskTerms.{AskTerm, GetAsk, CallAsk, UnitAsk, NoteAsk, OwnKeysAsk, OwnAsk, LookAsk, NewAsk, NewTerm, NewArray, ChangeAsk, OfLook, SightAnswer}
use Rattle.widl_steps.specs.Tasks.{TaskEnd, Gives, Plain, Picks, Throw, Rethrow, Profile}
use Rattle.widl_steps.specs.BuiltCalls.{calls_built_today}
use Rattle.widl_steps.specs.CallRules.{call_rule}
use Rattle.widl_steps.specs.Operations.{lines_of, operation_in}
use Rattle.widl_steps.specs.StepLines.{Operation, is_target, lines_for}
use Rattle.widl_runs.specs.Ends.{JobEnd, Normal, Returned, Thrown, Talked, Seen, answer_by, answer_of, completion_answer, task_end_in}
use Rattle.widl_runs.specs.Looks.{sight_of}
use Rattle.widl_runs.specs.Asks.{asks}
use Rattle.widl_runs.specs.Actions.{Pay, Reply, inner_in, body_in, property_in, put_result_in, define_result_in, delete_result_in, Body, ScriptBody, BuiltinBody, NoBody, ObjectPrototype, FunctionPrototype, ArrayPrototype, TypeErrorPrototype, prototype, prototype_of, ordinary, plan_of, sight_seen}
use Rattle.widl_runs.specs.Jobs.{Program, KeyPart, Named, Computed, MemberUse, ForRead, ForCall, ForSet, ForDefine, ForAccessor, ForDelete, RowUse, ForArguments, ForNew, ForItems, Job, RunStatements, RunStatement, Evaluate, EvaluateRow, ReadMember, SetMember, DefineMember, DefineAccessor, DeleteMember, CallValue, ConstructValue, Talk, Asked, Fail, Doing, value, fails, reaches}
use Rattle.widl_runs.specs.Calls.{call_result, closes, by_talk, function_in, body, if_callable, callable, call, construct_body, construct}
use Rattle.widl_runs.specs.Members.{accessor_flags, with_getter, uses, member, key_of, if_key, tested, read_value, put_done, define_done, defines_parts, tests_setter, delete_done}
use Rattle.widl_runs.specs.Expressions.{adds, object_of, row_done, evaluate_row, call_tree, evaluate}
use Rattle.widl_runs.specs.Statements.{same_value, caught, performs, run_statement, run_statements}
use Rattle.widl_runs.specs.Rules.{rule}
use Rattle.widl_runs.specs.Traces.{whole}
use Rattle.widl_runs.specs.Fitting.{AreFew, count_of, HasShortRows, HaveShortRows, HasShortMember, HasShortOption, HasFunctions, HasFunction, ThrowsPlain, HasPlainSteps, IsRunnable, HasPrototypes, CanBeMade}
use Rattle.widl_runs.proofs.LiveParts.{LiveTaskEnd, LiveAnswer, LiveInner, LiveSeen, live_sight, live_sight_in, LiveValue, LiveOption, LiveValues, LiveEnd, LiveProp, LiveFound, LivePut, LiveReply}
use Rattle.widl_runs.proofs.LiveJobs.{LiveItems, LiveNew, LiveUse, LiveAsk, LiveJob, LiveJobEnd, Safe, safe_weaker, live_append, live_parameters}
use Rattle.widl_runs.proofs.LiveStores.{live_items}
use Rattle.widl_runs.proofs.LiveTalks.{safe_call_task}
use Rattle.widl_runs.proofs.SafeTalks.{live_task_end, live_completion, safe_in_world}

plain_lines : (o : Operation) (ss : StatementTrees) → HasPlainSteps ss → All ThrowsPlain (lines_for o ss)
plain_lines o no_statements h = λ k d less. absurd (omega (arith, less))
plain_lines o (then_more (StepsT target lines) ss) h = cond_both (is_target o target) lines (lines_for o ss) (All ThrowsPlain) (λ e. h.0) (λ e. plain_lines o ss h.1)
plain_lines o (then_more (LetT name e) ss) h = plain_lines o ss h
plain_lines o (then_more (DoT e) ss) h = plain_lines o ss h
plain_lines o (then_more (ReturnT e) ss) h = plain_lines o ss h
plain_lines o (then_more (ThrowT e) ss) h = plain_lines o ss h
plain_lines o (then_more (ShowT e) ss) h = plain_lines o ss h
plain_lines o (then_more (SetT m e) ss) h = plain_lines o ss h
plain_lines o (then_more (DefineT m e hidden) ss) h = plain_lines o ss h
plain_lines o (then_more (DefineAccessorT m getter setter) ss) h = plain_lines o ss h
plain_lines o (then_more (DeleteT m) ss) h = plain_lines o ss h
plain_lines o (then_more (TryT body name handler) ss) h = plain_lines o ss h
plain_lines o (then_more (IfT left right met unmet) ss) h = plain_lines o ss h
plain_lines o (then_more (FunctionT number name params body) ss) h = plain_lines o ss h

-- the function of a number, or none
has_body : (count : ℕ) (fs : List FunctionTree) (number : ℕ) → All (λ f. HasFunctions count f.body) fs → HasFunctions count (slice_index_or fs number (record { name = []; params = []; names = []; body = no_statements })).body
has_body count [] number each = tt
has_body count (f ∷ fs) zero each = each 0 f (omega arith)
has_body count (f ∷ fs) (suc number) each = has_body count fs number (λ k d less. each (suc k) d (omega (arith, less)))

module _ (p : Program) (runnable : IsRunnable p.script) (objects : List Obj) (first : HasPrototypes objects) where
  abbrev IsSafe : Doing → Type 0
  IsSafe d = Safe p objects (LiveEnd objects) d

  abbrev Live : Value → Type 0
  Live v = LiveValue objects v

  abbrev Lives : List Value → Type 0
  Lives vs = LiveValues objects vs

  abbrev Has : ObjRef → Type 0
  Has o = IsLive objects o

  safe_value : (k : Value → Doing) → ((v : Value) → Live v → IsSafe (k v)) → (c : JobEnd) → LiveEnd objects c → IsSafe (value k c)
  safe_value k each (Normal v) l = each v l
  safe_value k each (Returned v) l = l
  safe_value k each (Thrown v) l = l
  safe_value k each (Talked end) l = l
  safe_value k each (Seen answer) l = l

  safe_fails : (why : Code) → IsSafe (fails why)
  safe_fails why = (tt, λ c l. l)

  safe_reaches : (end : ℕ) → IsSafe (reaches end)
  safe_reaches end = (tt, λ r l. tt)

  safe_adds : (plan : Plan) → CanBeMade p objects plan → LiveItems objects plan.inner plan.entries → IsSafe (adds plan)
  safe_adds plan can items = ((can, items), λ r l. l.0.object)

  -- what is asked for can be made
  can_be_new : (new : NewTerm) → LiveNew objects new → CanBeMade p objects (plan_of new)
  can_be_new new l = (first (prototype_of new), subst (λ (number : Option ℕ). IfSome number (λ n. n < length p.script.functions)) (sym l.other) tt)

  live_result : (c : JobEnd) → LiveEnd objects c → LiveEnd objects (call_result c)
  live_result (Normal v) l = tt
  live_result (Returned v) l = l
  live_result (Thrown v) l = l
  live_result (Talked end) l = tt
  live_result (Seen answer) l = tt

  safe_closes : (c : JobEnd) → LiveEnd objects c → IsSafe (closes c)
  safe_closes c l = (tt, λ r x. (tt, λ s y. live_result c l))

  safe_shape : (k : ObjRef → Doing) → ((o : ObjRef) → Has o → IsSafe (k o)) → (o : ObjRef) (s : Shape) → Has o → IsSafe (if_callable k o s)
  safe_shape k each o shapes.Plain l = safe_fails code.NotCallable
  safe_shape k each o shapes.Callable l = each o l
  safe_shape k each o (shapes.Platform iface) l = safe_fails code.NotCallable

  safe_callable : (k : ObjRef → Doing) → ((o : ObjRef) → Has o → IsSafe (k o)) → (v : Value) → Live v → IsSafe (callable k v)
  safe_callable k each values.Undefined l = safe_fails code.NotCallable
  safe_callable k each values.Null l = safe_fails code.NotCallable
  safe_callable k each (values.Bool b) l = safe_fails code.NotCallable
  safe_callable k each (values.Num x) l = safe_fails code.NotCallable
  safe_callable k each (values.Str text) l = safe_fails code.NotCallable
  safe_callable k each (values.Sym id) l = safe_fails code.NotCallable
  safe_callable k each (values.Obj o) l = safe_shape k each o o.shape l

  -- what a conversation comes to
  safe_by_talk : (r : TaskEnd) → LiveTaskEnd objects r → IsSafe (by_talk closes r)
  safe_by_talk (Gives w) l = safe_closes (Returned values.Undefined) tt
  safe_by_talk (Plain v) l = safe_closes (Returned v) l
  safe_by_talk (Picks overload ws) l = safe_closes (Returned values.Undefined) tt
  safe_by_talk (Throw why) l = (tt, safe_closes)
  safe_by_talk (Rethrow v) l = safe_closes (Thrown v) l
  safe_by_talk (Profile end) l = safe_reaches end

  safe_body : (f : ObjRef) (this : Value) (args : List Value) (b : Body) → Live this → Lives args → AreFew args → IsSafe (body p f this args closes b)
  safe_body f this args (ScriptBody number) l ls few = (
    (l, live_parameters objects [] (function_in p.script number).params args tt ls),
    λ r x. (has_body (length p.script.functions) p.script.functions number runnable.bodies, safe_closes),
  )
  safe_body f this args (BuiltinBody b) l ls few = ((l, tt), λ r x. ((l, ls, few), λ c y. safe_by_talk (task_end_in c) (live_task_end objects c y)))
  safe_body f this args NoBody l ls few = safe_reaches 99

  safe_call : (f this : Value) (args : List Value) → Live f → Live this → Lives args → AreFew args → IsSafe (call p f this args)
  safe_call f this args lf l ls few = safe_callable _ (λ o lo. (lo, λ r x. (tt, λ s y. (tt, λ t z. safe_body o this args (body_in r) l ls few)))) f lf

  safe_new : (f : ObjRef) (args : List Value) (b : Builtin) → IsSafe (construct_body f args (BuiltinBody b))
  safe_new f args (builtins.Intrinsic number) = safe_fails code.NoConstructor
  safe_new f args (builtins.Callee callee) = safe_fails code.NoConstructor
  safe_new f args (builtins.InterfaceObject iface) = (tt, λ r x. (tt, λ s y. safe_reaches 99))
  safe_new f args (builtins.Pairs iface what) = safe_fails code.NoConstructor

  safe_construct_body : (f : ObjRef) (args : List Value) (b : Body) → IsSafe (construct_body f args b)
  safe_construct_body f args (ScriptBody number) = safe_fails code.NoConstructor
  safe_construct_body f args (BuiltinBody b) = safe_new f args b
  safe_construct_body f args NoBody = safe_fails code.NoConstructor

  safe_construct : (f : Value) (args : List Value) → Live f → IsSafe (construct f args)
  safe_construct values.Undefined args l = safe_fails code.NoConstructor
  safe_construct values.Null args l = safe_fails code.NoConstructor
  safe_construct (values.Bool b) args l = safe_fails code.NoConstructor
  safe_construct (values.Num x) args l = safe_fails code.NoConstructor
  safe_construct (values.Str text) args l = safe_fails code.NoConstructor
  safe_construct (values.Sym id) args l = safe_fails code.NoConstructor
  safe_construct (values.Obj f) args l = (l, λ r x. safe_construct_body f args (body_in r))

  safe_key : (k : Key → Doing) → ((key : Key) → IsSafe (k key)) → (key : Option Key) → IsSafe (if_key k key)
  safe_key k each None = safe_fails code.Key
  safe_key k each (Some key) = each key

  safe_tested : (k : ObjRef → Key → Doing) → ((o : ObjRef) (key : Key) → Has o → IsSafe (k o key)) → (v : Value) (key : KeyPart) → Live v → IsSafe (tested k v key)
  safe_tested k each values.Undefined key l = safe_fails code.Member
  safe_tested k each values.Null key l = safe_fails code.Member
  safe_tested k each (values.Bool b) key l = safe_reaches 4
  safe_tested k each (values.Num x) key l = safe_reaches 4
  safe_tested k each (values.Str text) key l = safe_reaches 4
  safe_tested k each (values.Sym id) key l = safe_reaches 4
  safe_tested k each (values.Obj o) key l = safe_key (k o) (λ key. each o key l) (key_of key)

  safe_read : (o : ObjRef) (found : Option Prop) → Has o → LiveFound objects found → IsSafe (read_value o found)
  safe_read o None lo l = tt
  safe_read o (Some (props.Plain v flags)) lo l = l
  safe_read o (Some (props.Accessor None setter flags)) lo l = tt
  safe_read o (Some (props.Accessor (Some getter) setter flags)) lo l = ((l.0, lo, tt, omega arith), λ c x. x)

  safe_put : (o : ObjRef) (answer : Result Put PutFault) → Has o → LivePut objects answer → IsSafe (put_done o answer)
  safe_put o (results.Ok puts.Done) lo l = tt
  safe_put o (results.Ok (puts.Setter setter v)) lo l = ((l.0, lo, (l.1, tt), omega arith), λ c x. safe_value _ (λ w y. tt) c x)
  safe_put o (results.Err (putting.ReadOnly flags)) lo l = safe_fails code.ReadOnly
  safe_put o (results.Err putting.NoSetter) lo l = safe_fails code.ReadOnly
  safe_put o (results.Err putting.Length) lo l = safe_reaches 2
  safe_put o (results.Err putting.Memory) lo l = tt

  safe_defined : (answer : Result (Unit {0}) DefineFault) → IsSafe (define_done answer)
  safe_defined (results.Ok done) = tt
  safe_defined (results.Err (defining.NotConfigurable flags)) = safe_fails code.NotConfigurable
  safe_defined (results.Err defining.Length) = safe_reaches 2
  safe_defined (results.Err defining.Memory) = tt

  safe_deleted : (answer : Result (Unit {0}) refusal.NotConfigurable) → IsSafe (delete_done answer)
  safe_deleted (results.Ok done) = tt
  safe_deleted (results.Err fault) = safe_fails code.NotConfigurable

  safe_parts : (o : ObjRef) (key : Key) (getter : ObjRef) (setter : Option ObjRef) → Has o → LiveProp objects (props.Accessor (Some getter) setter accessor_flags) → IsSafe (defines_parts o key getter setter)
  safe_parts o key getter setter lo l = ((lo, l), λ r x. safe_defined (define_result_in r))

  safe_setter : (o : ObjRef) (key : Key) (setter : Option Value) (getter : ObjRef) → Has o → LiveOption objects setter → Has getter → IsSafe (tests_setter o key setter getter)
  safe_setter o key None getter lo ls lg = safe_parts o key getter None lo (lg, tt)
  safe_setter o key (Some setter) getter lo ls lg = safe_callable _ (λ s l. safe_parts o key getter (Some s) lo (lg, l)) setter ls

  safe_getter : (v : Value) (key : KeyPart) (setter : Option ExpressionTree) (g : Value) → Live v → Live g → HasShortOption setter → IsSafe (with_getter v key setter g)
  safe_getter v key None g l lg short = ((l, lg, tt), λ c x. x)
  safe_getter v key (Some setter) g l lg short = (short, λ c x. safe_value _ (λ s ls. ((l, lg, ls), λ d y. y)) c x)

  abbrev HasShortUse : MemberUse → Type 0
  HasShortUse ForRead = Unit {0}
  HasShortUse (ForCall args) = (count_of args < 2 ^ 32) × HaveShortRows args
  HasShortUse (ForSet e) = HasShortRows e
  HasShortUse (ForDefine e hidden) = HasShortRows e
  HasShortUse (ForAccessor getter setter) = HasShortRows getter × HasShortOption setter
  HasShortUse ForDelete = Unit {0}

  safe_used : (what : MemberUse) (v : Value) (key : KeyPart) → Live v → HasShortUse what → IsSafe (uses what v key)
  safe_used ForRead v key l short = (l, λ c x. x)
  safe_used (ForCall args) v key l short = (l, λ c x. safe_value _ (λ f lf. (((lf, l), tt, (let few = short.0 in omega (arith, few)), short.1), λ d y. y)) c x)
  safe_used (ForSet e) v key l short = (short, λ c x. safe_value _ (λ w lw. ((l, lw), λ d y. y)) c x)
  safe_used (ForDefine e hidden) v key l short = (short, λ c x. safe_value _ (λ w lw. ((l, lw), λ d y. y)) c x)
  safe_used (ForAccessor getter setter) v key l short = (short.0, λ c x. safe_value _ (λ g lg. safe_getter v key setter g l lg short.1) c x)
  safe_used ForDelete v key l short = (l, λ c x. x)

  safe_member : (what : MemberUse) (m : MemberTree) → HasShortUse what → HasShortMember m → IsSafe (member what m)
  safe_member what (NamedT of name) short h = (h, λ c x. safe_value _ (λ v l. safe_used what v (Named name) l short) c x)
  safe_member what (ComputedT of key) short h = (h.0, λ c x. safe_value _ (λ v l. (h.1, λ d y. safe_value _ (λ k lk. safe_used what v (Computed k) l short) d y)) c x)

  safe_object : (v : Value) → Live v → IsSafe (object_of v)
  safe_object values.Undefined l = safe_fails code.NotObject
  safe_object values.Null l = (tt, λ r x. safe_adds (ordinary None) (tt, tt) (tt, tt))
  safe_object (values.Bool b) l = safe_fails code.NotObject
  safe_object (values.Num x) l = safe_fails code.NotObject
  safe_object (values.Str text) l = safe_fails code.NotObject
  safe_object (values.Sym id) l = safe_fails code.NotObject
  safe_object (values.Obj o) l = (tt, λ r x. safe_adds (ordinary (Some o)) (l, tt) (tt, tt))

  safe_done : (what : RowUse) (vs : List Value) → LiveUse objects what → Lives vs → AreFew vs → IsSafe (row_done what vs)
  safe_done (ForArguments f this) vs l ls few = ((l.0, l.1, ls, few), λ c x. x)
  safe_done (ForNew f) vs l ls few = (l, λ c x. x)
  safe_done ForItems vs l ls few = (tt, λ r x. safe_adds (plan_of (NewArray vs)) (first ArrayPrototype, tt) (tt, live_items objects 0 vs ls))

  safe_row : (what : RowUse) (vs : List Value) (es : ExpressionTrees) → LiveUse objects what → Lives vs → length vs + count_of es < 2 ^ 32 → HaveShortRows es → IsSafe (evaluate_row what vs es)
  safe_row what vs none l ls few short = safe_done what vs l ls (omega (arith, few))
  safe_row what vs (more e es) l ls few short =
      (short.0, λ c x. safe_value _ (λ v lv. ((l, live_append objects vs v ls lv, (let long = length-append vs (v ∷ []) in omega (arith, few, long)), short.1), λ d y. y)) c x)

  -- the function's expression, and then the arguments
  safe_plain : (f : ExpressionTree) (args : ExpressionTrees) → HasShortRows f → count_of args < 2 ^ 32 → HaveShortRows args → IsSafe (Steps (Evaluate f) (value (λ v. Steps (EvaluateRow (ForArguments v values.Undefined) [] args) End)))
  safe_plain f args h few short = (h, λ c x. safe_value _ (λ v l. (((l, tt), tt, omega (arith, few), short), λ d y. y)) c x)

  safe_tree : (f : ExpressionTree) (args : ExpressionTrees) → HasShortRows f → count_of args < 2 ^ 32 → HaveShortRows args → IsSafe (call_tree f args)
  safe_tree (MemberT of name) args h few short = safe_member (ForCall args) (NamedT of name) (few, short) h
  safe_tree (IndexT of key) args h few short = safe_member (ForCall args) (ComputedT of key) (few, short) h
  safe_tree UndefinedT args h few short = safe_plain UndefinedT args h few short
  safe_tree NullT args h few short = safe_plain NullT args h few short
  safe_tree ThisT args h few short = safe_plain ThisT args h few short
  safe_tree NewSymbolT args h few short = safe_plain NewSymbolT args h few short
  safe_tree NewObjectT args h few short = safe_plain NewObjectT args h few short
  safe_tree (BoolT b) args h few short = safe_plain (BoolT b) args h few short
  safe_tree (NumberT n) args h few short = safe_plain (NumberT n) args h few short
  safe_tree (TextT text) args h few short = safe_plain (TextT text) args h few short
  safe_tree (NameT name) args h few short = safe_plain (NameT name) args h few short
  safe_tree (SymbolT id) args h few short = safe_plain (SymbolT id) args h few short
  safe_tree (ObjectOfT proto) args h few short = safe_plain (ObjectOfT proto) args h few short
  safe_tree (NewArrayT es) args h few short = safe_plain (NewArrayT es) args h few short
  safe_tree (CallT g es) args h few short = safe_plain (CallT g es) args h few short
  safe_tree (NewT g es) args h few short = safe_plain (NewT g es) args h few short
  safe_tree (CallWithT g this es) args h few short = safe_plain (CallWithT g this es) args h few short

  safe_evaluate : (e : ExpressionTree) → HasShortRows e → IsSafe (evaluate e)
  safe_evaluate UndefinedT short = tt
  safe_evaluate NullT short = tt
  safe_evaluate ThisT short = (tt, λ r l. l.0.value)
  safe_evaluate NewSymbolT short = (tt, λ r l. (tt, λ s m. m.0.value))
  safe_evaluate NewObjectT short = (tt, λ r l. safe_adds (ordinary (Some (prototype ObjectPrototype))) (first ObjectPrototype, tt) (tt, tt))
  safe_evaluate (BoolT b) short = tt
  safe_evaluate (NumberT x) short = tt
  safe_evaluate (TextT text) short = tt
  safe_evaluate (NameT name) short = (tt, λ r l. l.0.value)
  safe_evaluate (SymbolT id) short = tt
  safe_evaluate (ObjectOfT proto) short = (short, λ c x. safe_value _ safe_object c x)
  safe_evaluate (NewArrayT es) short = ((tt, tt, (let few = short.0 in omega (arith, few)), short.1), λ c x. x)
  safe_evaluate (MemberT of name) short = safe_member ForRead (NamedT of name) tt short
  safe_evaluate (IndexT of key) short = safe_member ForRead (ComputedT of key) tt short
  safe_evaluate (CallT f args) short = safe_tree f args short.0 short.1 short.2
  safe_evaluate (NewT f args) short = (short.0, λ c x. safe_value _ (λ v l. ((l, tt, (let few = short.1 in omega (arith, few)), short.2), λ d y. y)) c x)
  safe_evaluate (CallWithT f t args) short =
      (short.0, λ c x. safe_value _ (λ v l. (short.1, λ d y. safe_value _ (λ w m. (((l, m), tt, (let few = short.2 in omega (arith, few)), short.3), λ e z. z)) d y)) c x)

  abbrev Numbered : StatementTrees → Type 0
  Numbered ss = HasFunctions (length p.script.functions) ss

  safe_chooses : (b : Bool) (met unmet : StatementTrees) → Numbered met → Numbered unmet → IsSafe (if b then Steps (RunStatements met) End else Steps (RunStatements unmet) End)
  safe_chooses true met unmet m u = (m, λ c x. x)
  safe_chooses false met unmet m u = (u, λ c x. x)

  safe_caught : (name : Text) (handler : StatementTrees) → Numbered handler → (c : JobEnd) → LiveEnd objects c → IsSafe (caught name handler c)
  safe_caught name handler h (Normal v) l = l
  safe_caught name handler h (Returned v) l = l
  safe_caught name handler h (Thrown v) l = (l, λ r x. (h, λ c y. y))
  safe_caught name handler h (Talked end) l = l
  safe_caught name handler h (Seen answer) l = l

  safe_performs : (s : StatementTree) → HasFunction (length p.script.functions) s → IsSafe (performs s)
  safe_performs (LetT name e) h = (h, λ c x. safe_value _ (λ v l. (l, λ r y. tt)) c x)
  safe_performs (DoT e) h = (h, λ c x. safe_value _ (λ v l. tt) c x)
  safe_performs (ReturnT e) h = (h, λ c x. safe_value _ (λ v l. l) c x)
  safe_performs (ThrowT e) h = (h, λ c x. safe_value _ (λ v l. l) c x)
  safe_performs (ShowT e) h = (h, λ c x. safe_value _ (λ v l. (tt, λ r y. tt)) c x)
  safe_performs (SetT m e) h = safe_member (ForSet e) m h.1 h.0
  safe_performs (DefineT m e hidden) h = safe_member (ForDefine e hidden) m h.1 h.0
  safe_performs (DefineAccessorT m getter setter) h = safe_member (ForAccessor getter setter) m (h.1, h.2) h.0
  safe_performs (DeleteT m) h = safe_member ForDelete m tt h
  safe_performs (TryT body name handler) h = (h.0, safe_caught name handler h.1)
  safe_performs (IfT left right met unmet) h = (h.0, λ c x. safe_value _ (λ v l. (h.1, λ d y. safe_value _ (λ w m. safe_chooses (same_value v w) met unmet h.2 h.3) d y)) c x)
  safe_performs (FunctionT number name params body) h = (tt, λ r x. (((first FunctionPrototype, h), (tt, (tt, (tt, tt)))), λ s y. (y.0.object, λ t z. tt)))
  safe_performs (StepsT target lines) h = tt

  safe_paid : (s : StatementTree) → HasFunction (length p.script.functions) s → IsSafe (Say Pay (λ r. performs s))
  safe_paid s h = (tt, λ r x. safe_performs s h)

  safe_statement : (s : StatementTree) → HasFunction (length p.script.functions) s → IsSafe (run_statement s)
  safe_statement (StepsT target lines) h = tt
  safe_statement (LetT name e) h = safe_paid (LetT name e) h
  safe_statement (DoT e) h = safe_paid (DoT e) h
  safe_statement (ReturnT e) h = safe_paid (ReturnT e) h
  safe_statement (ThrowT e) h = safe_paid (ThrowT e) h
  safe_statement (ShowT e) h = safe_paid (ShowT e) h
  safe_statement (SetT m e) h = safe_paid (SetT m e) h
  safe_statement (DefineT m e hidden) h = safe_paid (DefineT m e hidden) h
  safe_statement (DefineAccessorT m getter setter) h = safe_paid (DefineAccessorT m getter setter) h
  safe_statement (DeleteT m) h = safe_paid (DeleteT m) h
  safe_statement (TryT body name handler) h = safe_paid (TryT body name handler) h
  safe_statement (IfT left right met unmet) h = safe_paid (IfT left right met unmet) h
  safe_statement (FunctionT number name params body) h = safe_paid (FunctionT number name params body) h

  safe_statements : (ss : StatementTrees) → Numbered ss → IsSafe (run_statements ss)
  safe_statements no_statements h = tt
  safe_statements (then_more s ss) h = (h.0, λ c x. safe_value _ (λ v l. (h.1, λ d y. y)) c x)

  -- the inner part that a look sees
  live_seen_part : (inner : Option InnerTerm) → LiveSeen objects inner → LiveInner objects (unwrap_or inner PlainPart)
  live_seen_part None l = tt
  live_seen_part (Some inner) l = l

  live_look : (what : Look) (r : Reply) → LiveReply objects r → LiveAnswer objects (answer_by (OfLook what) (Seen (sight_seen what r)))
  live_look what r l =
      let inner : InnerTerm = unwrap_or (inner_in r) PlainPart in
      live_sight_in objects what (SightAnswer (sight_of what inner)) (live_sight objects what inner (live_seen_part (inner_in r) l.inner))

  safe_ask : (ask : AskTerm) → LiveAsk objects ask → Safe p objects (λ c. LiveAnswer objects (answer_of ask c)) (asks ask)
  safe_ask (GetAsk o key) l = (tt, λ r x. (l, λ s y. safe_weaker p objects (LiveEnd objects) (λ c. LiveAnswer objects (completion_answer c)) (read_value o (property_in s)) (live_completion objects) (safe_read o (property_in s) l y.0.property)))
  safe_ask (CallAsk f this args) l = (l, λ c x. live_completion objects c x)
  safe_ask UnitAsk l = (tt, λ r x. tt)
  safe_ask (NoteAsk event) l = (tt, λ r x. tt)
  safe_ask (OwnKeysAsk o) l = (tt, λ r x. (l, λ s y. tt))
  safe_ask (OwnAsk o key) l = (tt, λ r x. (l, λ s y. tt))
  safe_ask (LookAsk o what) l = (l, λ r x. live_look what r x.0)
  safe_ask (NewAsk new) l = (tt, λ r x. ((can_be_new new l, l.items), λ s y. y.0.object ∙ ap Some y.1))
  safe_ask (ChangeAsk o change) l = (l, λ r x. tt)

  plain_steps : (callee : Callee) (overload : ℕ) → All ThrowsPlain (lines_of p.list p.script callee overload)
  plain_steps callee overload = at (operation_in p.list callee.part overload callee.owner)
    where
      at : (o : Option Operation) → All ThrowsPlain (option_map_or (λ (x : Operation). lines_for x p.script.top) o [])
      at None = λ k d less. absurd (omega (arith, less))
      at (Some o) = plain_lines o p.script.top runnable.steps

  pub safe : (j : Job) → LiveJob p objects j → Safe p objects (LiveJobEnd objects j) (rule p j)
  safe (RunStatements ss) l = safe_statements ss l
  safe (RunStatement s) l = safe_statement s l
  safe (Evaluate e) l = safe_evaluate e l
  safe (EvaluateRow what vs es) l = safe_row what vs es l.0 l.1 l.2 l.3
  safe (ReadMember of key) l = safe_tested _ (λ o k lo. (lo, λ r x. safe_read o (property_in r) lo x.0.property)) of key l
  safe (SetMember of key v) l = safe_tested _ (λ o k lo. ((lo, l.1), λ r x. safe_put o (put_result_in r) lo x.0.put)) of key l.0
  safe (DefineMember of key v hidden) l = safe_tested _ (λ o k lo. ((lo, l.1), λ r x. safe_defined (define_result_in r))) of key l.0
  safe (DefineAccessor of key getter setter) l = safe_tested _ (λ o k lo. safe_callable _ (λ g lg. safe_setter o k setter g lo l.2 lg) getter l.1) of key l.0
  safe (DeleteMember of key) l = safe_tested _ (λ o k lo. (lo, λ r x. safe_deleted (delete_result_in r))) of key l
  safe (CallValue f this args) l = safe_call f this args l.0 l.1 l.2 l.3
  safe (ConstructValue f args) l = safe_construct f args l
  safe (Talk task) l = safe_in_world p objects (call_rule calls_built_today p.list (lines_of p.list p.script) task) (safe_call_task p.list (lines_of p.list p.script) plain_steps objects task l)
  safe (Asked ask) l = safe_ask ask l
  safe (Fail why) l = (tt, λ r x. (((first TypeErrorPrototype, tt), (tt, tt)), λ s y. (tt, λ t z. y.0.object)))

  pub safe_whole : IsSafe (whole p)
  safe_whole = (runnable.top, λ c l. (tt, λ r x. l))
