-- Why each run ends: between two actions that pay, a script only goes to lower jobs.
use Rattle.std.proofs.Common.{◌≡◌, ℕ, suc, ◌+◌, ◌<◌, true, List, [], ◌∷◌, ◌++◌, Option, Some, None, arith, refl}
use mathlib.Core.Logic.{inr}
use Rattle.std.specs.declared.result.Result.{Result}
use Rattle.std.specs.declared.result.Result.TheVariants as results
use Rattle.widl_dialog.specs.Dialog.{End, Steps}
use Rattle.widl_dialog.specs.Calm.{Below, Calm, Spends}
use Rattle.widl_text.specs.declared.key.Key.{Key}
use Rattle.widl_value.specs.declared.object.ObjRef.{ObjRef}
use Rattle.widl_value.specs.declared.object.Shape.{Shape}
use Rattle.widl_value.specs.declared.object.Shape.TheVariants as shapes
use Rattle.widl_value.specs.declared.value.Value.{Value}
use Rattle.widl_value.specs.declared.value.Value.TheVariants as values
use Rattle.widl_store.specs.declared.effects.DefineFault.{DefineFault}
use Rattle.widl_store.specs.declared.effects.DefineFault.TheVariants as defining
use Rattle.widl_store.specs.declared.effects.NotConfigurable as refusal
use Rattle.widl_store.specs.declared.effects.Put.{Put}
use Rattle.widl_store.specs.declared.effects.Put.TheVariants as puts
use Rattle.widl_store.specs.declared.effects.PutFault.{PutFault}
use Rattle.widl_store.specs.declared.effects.PutFault.TheVariants as putting
use Rattle.widl_store.specs.declared.inner.Builtin.{Builtin}
use Rattle.widl_store.specs.declared.inner.Builtin.TheVariants as builtins
use Rattle.widl_store.specs.declared.property.Prop.{Prop}
use Rattle.widl_store.specs.declared.property.Prop.TheVariants as props
use Rattle.widl_script_tree.specs.Trees.{ExpressionTree, UndefinedT, NullT, ThisT, NewSymbolT, NewObjectT, BoolT, NumberT, TextT, NameT, SymbolT, ObjectOfT, NewArrayT, MemberT, IndexT, CallT, NewT, CallWithT, ExpressionTrees, none, more, MemberTree, NamedT, ComputedT, StatementTree, LetT, DoT, ReturnT, ThrowT, ShowT, SetT, DefineT, DefineAccessorT, DeleteT, TryT, IfT, FunctionT, StepsT, StatementTrees, no_statements, then_more}
use Rattle.widl_steps.specs.AskTerms.{AskTerm, GetAsk, CallAsk, UnitAsk, NoteAsk, OwnKeysAsk, OwnAsk, LookAsk, NewAsk, ChangeAsk}
use Rattle.widl_runs.specs.Ends.{JobEnd, Normal, Returned, Thrown, Talked, Seen}
use Rattle.widl_runs.specs.Actions.{body_in, property_in, put_result_in, define_result_in, delete_result_in, Body, ScriptBody, BuiltinBody, NoBody}
use Rattle.widl_runs.specs.Jobs.{Program, KeyPart, Named, Computed, MemberUse, ForRead, ForCall, RowUse, ForArguments, ForNew, ForItems, Job, RunStatements, RunStatement, Evaluate, EvaluateRow, ReadMember, SetMember, DefineMember, DefineAccessor, DeleteMember, CallValue, ConstructValue, Talk, Asked, Fail, Doing, value}
use Rattle.widl_runs.specs.Calls.{if_callable, callable, call, construct_body, construct}
use Rattle.widl_runs.specs.Members.{uses, member, key_of, if_key, tested, read_value, put_done, define_done, defines_parts, tests_setter, delete_done}
use Rattle.widl_runs.specs.Expressions.{object_of, row_done, evaluate_row, call_tree, evaluate}
use Rattle.widl_runs.specs.Statements.{run_statement, run_statements}
use Rattle.widl_runs.specs.Asks.{asks}
use Rattle.widl_runs.specs.Rules.{rule}
use Rattle.widl_runs.proofs.Ranks.{size, sizes, count, high, low, spends, ask_spends, ranks}
use Rattle.widl_runs.proofs.CalmTalks.{calm_talk, spend_talk}

module _ (p : Program) where
  -- 1. Each rule is calm

  abbrev IsCalm : ℕ → Doing → Type 0
  IsCalm n d = Calm (ranks p.list) 0 n d

  abbrev IsBelow : ℕ → Job → Type 0
  IsBelow n j = Below high (low p.list) 0 n j

  below : (n : ℕ) (j : Job) → high j ≡ 0 → low p.list j < n → IsBelow n j
  below n j e h = inr (e, h)

  calm_value : (n : ℕ) (k : Value → Doing) → ((v : Value) → IsCalm n (k v)) → (c : JobEnd) → IsCalm n (value k c)
  calm_value n k each (Normal v) = each v
  calm_value n k each (Returned v) = tt
  calm_value n k each (Thrown v) = tt
  calm_value n k each (Talked end) = tt
  calm_value n k each (Seen answer) = tt

  calm_shape : (n : ℕ) (k : ObjRef → Doing) → 0 < n → ((o : ObjRef) → IsCalm n (k o)) → (o : ObjRef) (s : Shape) → IsCalm n (if_callable k o s)
  calm_shape n k h each o shapes.Plain = (inr (refl, h), tt)
  calm_shape n k h each o shapes.Callable = each o
  calm_shape n k h each o (shapes.Platform iface) = (inr (refl, h), tt)

  calm_callable : (n : ℕ) (k : ObjRef → Doing) → 0 < n → ((o : ObjRef) → IsCalm n (k o)) → (v : Value) → IsCalm n (callable k v)
  calm_callable n k h each values.Undefined = (inr (refl, h), tt)
  calm_callable n k h each values.Null = (inr (refl, h), tt)
  calm_callable n k h each (values.Bool b) = (inr (refl, h), tt)
  calm_callable n k h each (values.Num x) = (inr (refl, h), tt)
  calm_callable n k h each (values.Str text) = (inr (refl, h), tt)
  calm_callable n k h each (values.Sym id) = (inr (refl, h), tt)
  calm_callable n k h each (values.Obj o) = calm_shape n k h each o o.shape

  calm_call : (f this : Value) (args : List Value) → IsCalm 1 (call p f this args)
  calm_call f this args = calm_callable 1 _ (omega arith) (λ o r s. tt) f

  calm_built : (f : ObjRef) (args : List Value) (b : Builtin) → IsCalm 1 (construct_body f args (BuiltinBody b))
  calm_built f args (builtins.Intrinsic number) = (inr (refl, omega arith), tt)
  calm_built f args (builtins.Callee callee) = (inr (refl, omega arith), tt)
  calm_built f args (builtins.InterfaceObject iface) = λ r. tt
  calm_built f args (builtins.Pairs iface what) = (inr (refl, omega arith), tt)

  calm_body : (f : ObjRef) (args : List Value) (b : Body) → IsCalm 1 (construct_body f args b)
  calm_body f args (ScriptBody number) = (inr (refl, omega arith), tt)
  calm_body f args (BuiltinBody b) = calm_built f args b
  calm_body f args NoBody = (inr (refl, omega arith), tt)

  calm_construct : (f : Value) (args : List Value) → IsCalm 1 (construct f args)
  calm_construct values.Undefined args = (inr (refl, omega arith), tt)
  calm_construct values.Null args = (inr (refl, omega arith), tt)
  calm_construct (values.Bool b) args = (inr (refl, omega arith), tt)
  calm_construct (values.Num x) args = (inr (refl, omega arith), tt)
  calm_construct (values.Str text) args = (inr (refl, omega arith), tt)
  calm_construct (values.Sym id) args = (inr (refl, omega arith), tt)
  calm_construct (values.Obj f) args = λ r. calm_body f args (body_in r)

  calm_key : (n : ℕ) (k : Key → Doing) → 0 < n → ((key : Key) → IsCalm n (k key)) → (key : Option Key) → IsCalm n (if_key k key)
  calm_key n k h each None = (inr (refl, h), tt)
  calm_key n k h each (Some key) = each key

  calm_tested : (n : ℕ) (k : ObjRef → Key → Doing) → 0 < n → ((o : ObjRef) (key : Key) → IsCalm n (k o key)) → (v : Value) (key : KeyPart) → IsCalm n (tested k v key)
  calm_tested n k h each values.Undefined key = (inr (refl, h), tt)
  calm_tested n k h each values.Null key = (inr (refl, h), tt)
  calm_tested n k h each (values.Bool b) key = tt
  calm_tested n k h each (values.Num x) key = tt
  calm_tested n k h each (values.Str text) key = tt
  calm_tested n k h each (values.Sym id) key = tt
  calm_tested n k h each (values.Obj o) key = calm_key n (k o) h (each o) (key_of key)

  calm_read : (o : ObjRef) (found : Option Prop) → IsCalm 2 (read_value o found)
  calm_read o None = tt
  calm_read o (Some (props.Plain v flags)) = tt
  calm_read o (Some (props.Accessor None setter flags)) = tt
  calm_read o (Some (props.Accessor (Some getter) setter flags)) = (inr (refl, omega arith), tt)

  calm_put : (o : ObjRef) (answer : Result Put PutFault) → IsCalm 2 (put_done o answer)
  calm_put o (results.Ok puts.Done) = tt
  calm_put o (results.Ok (puts.Setter setter v)) = (inr (refl, omega arith), tt)
  calm_put o (results.Err (putting.ReadOnly flags)) = (inr (refl, omega arith), tt)
  calm_put o (results.Err putting.NoSetter) = (inr (refl, omega arith), tt)
  calm_put o (results.Err putting.Length) = tt
  calm_put o (results.Err putting.Memory) = tt

  calm_defined : (answer : Result (Unit {0}) DefineFault) → IsCalm 2 (define_done answer)
  calm_defined (results.Ok done) = tt
  calm_defined (results.Err (defining.NotConfigurable flags)) = (inr (refl, omega arith), tt)
  calm_defined (results.Err defining.Length) = tt
  calm_defined (results.Err defining.Memory) = tt

  calm_deleted : (answer : Result (Unit {0}) refusal.NotConfigurable) → IsCalm 2 (delete_done answer)
  calm_deleted (results.Ok done) = tt
  calm_deleted (results.Err fault) = (inr (refl, omega arith), tt)

  calm_parts : (o : ObjRef) (key : Key) (getter : ObjRef) (setter : Option ObjRef) → IsCalm 2 (defines_parts o key getter setter)
  calm_parts o key getter setter = λ r. calm_defined (define_result_in r)

  calm_setter : (o : ObjRef) (key : Key) (setter : Option Value) (getter : ObjRef) → IsCalm 2 (tests_setter o key setter getter)
  calm_setter o key None getter = calm_parts o key getter None
  calm_setter o key (Some setter) getter = calm_callable 2 _ (omega arith) (λ s. calm_parts o key getter (Some s)) setter

  -- the members that an expression has
  calm_used : (n : ℕ) (v : Value) (key : KeyPart) → 2 < n → IsCalm n (uses ForRead v key)
  calm_used n v key h = (below n (ReadMember v key) refl h, λ r. tt)

  calm_with : (n : ℕ) (this : Value) (args : ExpressionTrees) (f : Value) → 2 + sizes args < n → IsCalm n (Steps (EvaluateRow (ForArguments f this) [] args) End)
  calm_with n this args f h = (below n (EvaluateRow (ForArguments f this) [] args) refl h, λ r. tt)

  calm_called : (n : ℕ) (args : ExpressionTrees) (v : Value) (key : KeyPart) → 2 + sizes args < n → IsCalm n (uses (ForCall args) v key)
  calm_called n args v key h = (below n (ReadMember v key) refl (omega (arith, h)), calm_value n _ (λ f. calm_with n v args f h))

  abbrev member_size : MemberTree → ℕ
  member_size (NamedT of name) = size of
  member_size (ComputedT of key) = size of + size key

  calm_member : (n : ℕ) (what : MemberUse) → ((v : Value) (key : KeyPart) → IsCalm n (uses what v key)) → (m : MemberTree) → 2 + member_size m < n → IsCalm n (member what m)
  calm_member n what each (NamedT of name) h = (below n (Evaluate of) refl h, calm_value n _ (λ v. each v (Named name)))
  calm_member n what each (ComputedT of key) h = (below n (Evaluate of) refl (omega (arith, h)), calm_value n _ (λ v. (below n (Evaluate key) refl (omega (arith, h)), calm_value n _ (λ k. each v (Computed k)))))

  calm_object : (n : ℕ) → 0 < n → (v : Value) → IsCalm n (object_of v)
  calm_object n h values.Undefined = (inr (refl, h), tt)
  calm_object n h values.Null = tt
  calm_object n h (values.Bool b) = (inr (refl, h), tt)
  calm_object n h (values.Num x) = (inr (refl, h), tt)
  calm_object n h (values.Str text) = (inr (refl, h), tt)
  calm_object n h (values.Sym id) = (inr (refl, h), tt)
  calm_object n h (values.Obj o) = tt

  calm_done : (what : RowUse) (vs : List Value) → IsCalm 2 (row_done what vs)
  calm_done (ForArguments f this) vs = (below 2 (CallValue f this vs) refl (omega arith), tt)
  calm_done (ForNew f) vs = (below 2 (ConstructValue f vs) refl (omega arith), tt)
  calm_done ForItems vs = tt

  calm_row : (what : RowUse) (vs : List Value) (es : ExpressionTrees) → IsCalm (2 + sizes es) (evaluate_row what vs es)
  calm_row what vs none = calm_done what vs
  calm_row what vs (more e es) = let n : ℕ = 2 + suc (size e + sizes es) in (below n (Evaluate e) refl (omega arith), calm_value n _ (λ v. (below n (EvaluateRow what (vs ++ v ∷ []) es) refl (omega arith), λ r. tt)))

  -- the function's expression, and then the arguments
  calm_plain : (f : ExpressionTree) (args : ExpressionTrees) → IsCalm (2 + suc (size f + sizes args)) (Steps (Evaluate f) (value (λ v. Steps (EvaluateRow (ForArguments v values.Undefined) [] args) End)))
  calm_plain f args = let n : ℕ = 2 + suc (size f + sizes args) in (below n (Evaluate f) refl (omega arith), calm_value n _ (λ v. calm_with n values.Undefined args v (omega arith)))

  calm_tree : (f : ExpressionTree) (args : ExpressionTrees) → IsCalm (2 + suc (size f + sizes args)) (call_tree f args)
  calm_tree UndefinedT args = calm_plain UndefinedT args
  calm_tree NullT args = calm_plain NullT args
  calm_tree ThisT args = calm_plain ThisT args
  calm_tree NewSymbolT args = calm_plain NewSymbolT args
  calm_tree NewObjectT args = calm_plain NewObjectT args
  calm_tree (BoolT b) args = calm_plain (BoolT b) args
  calm_tree (NumberT x) args = calm_plain (NumberT x) args
  calm_tree (TextT text) args = calm_plain (TextT text) args
  calm_tree (NameT name) args = calm_plain (NameT name) args
  calm_tree (SymbolT id) args = calm_plain (SymbolT id) args
  calm_tree (ObjectOfT proto) args = calm_plain (ObjectOfT proto) args
  calm_tree (NewArrayT es) args = calm_plain (NewArrayT es) args
  calm_tree (MemberT of name) args = calm_member _ (ForCall args) (λ v key. calm_called _ args v key (omega arith)) (NamedT of name) (omega arith)
  calm_tree (IndexT of key) args = calm_member _ (ForCall args) (λ v k. calm_called _ args v k (omega arith)) (ComputedT of key) (omega arith)
  calm_tree (CallT f as_) args = calm_plain (CallT f as_) args
  calm_tree (NewT f as_) args = calm_plain (NewT f as_) args
  calm_tree (CallWithT f this as_) args = calm_plain (CallWithT f this as_) args

  calm_evaluate : (e : ExpressionTree) → IsCalm (2 + size e) (evaluate e)
  calm_evaluate UndefinedT = tt
  calm_evaluate NullT = tt
  calm_evaluate ThisT = λ r. tt
  calm_evaluate NewSymbolT = tt
  calm_evaluate NewObjectT = tt
  calm_evaluate (BoolT b) = tt
  calm_evaluate (NumberT x) = tt
  calm_evaluate (TextT text) = tt
  calm_evaluate (NameT name) = λ r. tt
  calm_evaluate (SymbolT id) = tt
  calm_evaluate (ObjectOfT proto) = let n : ℕ = 2 + suc (size proto) in (below n (Evaluate proto) refl (omega arith), calm_value n _ (calm_object n (omega arith)))
  calm_evaluate (NewArrayT es) = (below (2 + suc (sizes es)) (EvaluateRow ForItems [] es) refl (omega arith), λ r. tt)
  calm_evaluate (MemberT of name) = calm_member _ ForRead (λ v key. calm_used _ v key (omega arith)) (NamedT of name) (omega arith)
  calm_evaluate (IndexT of key) = calm_member _ ForRead (λ v k. calm_used _ v k (omega arith)) (ComputedT of key) (omega arith)
  calm_evaluate (CallT f args) = calm_tree f args
  calm_evaluate (NewT f args) = let n : ℕ = 2 + suc (size f + sizes args) in (below n (Evaluate f) refl (omega arith), calm_value n _ (λ v. (below n (EvaluateRow (ForNew v) [] args) refl (omega arith), λ r. tt)))
  calm_evaluate (CallWithT f this args) =
      let n : ℕ = 2 + suc (size f + size this + sizes args) in
      (below n (Evaluate f) refl (omega arith), calm_value n _ (λ v. (below n (Evaluate this) refl (omega arith), calm_value n _ (λ t. calm_with n t args v (omega arith)))))

  calm_statement : (s : StatementTree) → IsCalm 0 (run_statement s)
  calm_statement (LetT name e) = tt
  calm_statement (DoT e) = tt
  calm_statement (ReturnT e) = tt
  calm_statement (ThrowT e) = tt
  calm_statement (ShowT e) = tt
  calm_statement (SetT m e) = tt
  calm_statement (DefineT m e hidden) = tt
  calm_statement (DefineAccessorT m getter setter) = tt
  calm_statement (DeleteT m) = tt
  calm_statement (TryT body name handler) = tt
  calm_statement (IfT left right met unmet) = tt
  calm_statement (FunctionT number name params body) = tt
  calm_statement (StepsT target lines) = tt

  calm_statements : (ss : StatementTrees) → IsCalm (suc (count ss)) (run_statements ss)
  calm_statements no_statements = tt
  calm_statements (then_more s ss) = let n : ℕ = suc (suc (count ss)) in (below n (RunStatement s) refl (omega arith), calm_value n _ (λ v. (below n (RunStatements ss) refl (omega arith), λ r. tt)))

  -- what an ask does: each but those that only look pays first
  calm_ask : (ask : AskTerm) → IsCalm 2 (asks ask)
  calm_ask (GetAsk o key) = tt
  calm_ask (CallAsk f this args) = (below 2 (CallValue (values.Obj f) this args) refl (omega arith), tt)
  calm_ask UnitAsk = tt
  calm_ask (NoteAsk event) = tt
  calm_ask (OwnKeysAsk o) = tt
  calm_ask (OwnAsk o key) = tt
  calm_ask (LookAsk o what) = λ r. tt
  calm_ask (NewAsk new) = tt
  calm_ask (ChangeAsk o change) = λ r. tt

  pub calm : (j : Job) → Calm (ranks p.list) (high j) (low p.list j) (rule p j)
  calm (RunStatements ss) = calm_statements ss
  calm (RunStatement s) = calm_statement s
  calm (Evaluate e) = calm_evaluate e
  calm (EvaluateRow what vs es) = calm_row what vs es
  calm (ReadMember of key) = calm_tested 2 _ (omega arith) (λ o k r. calm_read o (property_in r)) of key
  calm (SetMember of key v) = calm_tested 2 _ (omega arith) (λ o k r. calm_put o (put_result_in r)) of key
  calm (DefineMember of key v hidden) = calm_tested 2 _ (omega arith) (λ o k r. calm_defined (define_result_in r)) of key
  calm (DefineAccessor of key getter setter) = calm_tested 2 _ (omega arith) (λ o k. calm_callable 2 _ (omega arith) (λ g. calm_setter o k setter g) getter) of key
  calm (DeleteMember of key) = calm_tested 2 _ (omega arith) (λ o k r. calm_deleted (delete_result_in r)) of key
  calm (CallValue f this args) = calm_call f this args
  calm (ConstructValue f args) = calm_construct f args
  calm (Talk task) = calm_talk p task
  calm (Asked ask) = calm_ask ask
  calm (Fail code) = tt

  -- 2. The jobs that spend

  abbrev IsSpending : Doing → Type 0
  IsSpending d = Spends (ranks p.list) d

  spend_shape : (k : ObjRef → Doing) → ((o : ObjRef) → IsSpending (k o)) → (o : ObjRef) (s : Shape) → IsSpending (if_callable k o s)
  spend_shape k each o shapes.Plain = tt
  spend_shape k each o shapes.Callable = each o
  spend_shape k each o (shapes.Platform iface) = tt

  spend_callable : (k : ObjRef → Doing) → ((o : ObjRef) → IsSpending (k o)) → (v : Value) → IsSpending (callable k v)
  spend_callable k each values.Undefined = tt
  spend_callable k each values.Null = tt
  spend_callable k each (values.Bool b) = tt
  spend_callable k each (values.Num x) = tt
  spend_callable k each (values.Str text) = tt
  spend_callable k each (values.Sym id) = tt
  spend_callable k each (values.Obj o) = spend_shape k each o o.shape

  spend_built : (f : ObjRef) (args : List Value) (b : Builtin) → IsSpending (construct_body f args (BuiltinBody b))
  spend_built f args (builtins.Intrinsic number) = tt
  spend_built f args (builtins.Callee callee) = tt
  spend_built f args (builtins.InterfaceObject iface) = λ r. tt
  spend_built f args (builtins.Pairs iface what) = tt

  spend_body : (f : ObjRef) (args : List Value) (b : Body) → IsSpending (construct_body f args b)
  spend_body f args (ScriptBody number) = tt
  spend_body f args (BuiltinBody b) = spend_built f args b
  spend_body f args NoBody = tt

  spend_construct : (f : Value) (args : List Value) → IsSpending (construct f args)
  spend_construct values.Undefined args = tt
  spend_construct values.Null args = tt
  spend_construct (values.Bool b) args = tt
  spend_construct (values.Num x) args = tt
  spend_construct (values.Str text) args = tt
  spend_construct (values.Sym id) args = tt
  spend_construct (values.Obj f) args = λ r. spend_body f args (body_in r)

  spend_ask : (ask : AskTerm) → ask_spends ask ≡ true → IsSpending (asks ask)
  spend_ask (GetAsk o key) e = tt
  spend_ask (CallAsk f this args) e = tt
  spend_ask UnitAsk e = tt
  spend_ask (NoteAsk event) e = tt
  spend_ask (OwnKeysAsk o) e = tt
  spend_ask (OwnAsk o key) e = tt
  spend_ask (LookAsk o what) e = absurd (cc)
  spend_ask (NewAsk new) e = tt
  spend_ask (ChangeAsk o change) e = absurd (cc)

  pub spend : (j : Job) → spends j ≡ true → IsSpending (rule p j)
  spend (RunStatements ss) e = absurd (cc)
  spend (RunStatement s) e = absurd (cc)
  spend (Evaluate x) e = absurd (cc)
  spend (EvaluateRow what vs es) e = absurd (cc)
  spend (ReadMember of key) e = absurd (cc)
  spend (SetMember of key v) e = absurd (cc)
  spend (DefineMember of key v hidden) e = absurd (cc)
  spend (DefineAccessor of key getter setter) e = absurd (cc)
  spend (DeleteMember of key) e = absurd (cc)
  spend (CallValue f this args) e = spend_callable _ (λ o r s. tt) f
  spend (ConstructValue f args) e = spend_construct f args
  spend (Talk task) e = spend_talk p task e
  spend (Asked ask) e = spend_ask ask e
  spend (Fail code) e = tt
