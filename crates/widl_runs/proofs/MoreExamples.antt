-- More runs worked by hand: what is evaluated first, what is tested first, what `this` is, and where a run stops.
use Rattle.std.proofs.Common.{◌≡◌, ℕ, zero, suc, true, false, List, [], ◌∷◌, ◌++◌, map, Some, None, refl, ap, ◌∙◌}
use Rattle.std.specs.Prelude.{codes, pos}
use Rattle.widl_store.specs.Found.{found_at}
use Rattle.widl_store.specs.Effects.{is_fixed}
use Rattle.widl_store.specs.Intrinsics.{intrinsics}
use Rattle.widl_store.specs.Realm.{realm_over}
use Rattle.widl_store.specs.Objects.{length_key}
use Rattle.widl_script_tree.specs.declared.steps.StepLine.TheVariants as steps
use Rattle.widl_script_tree.specs.declared.steps.Target.TheVariants as targets
use Rattle.widl_script_tree.specs.Trees.{Text, ExpressionTree, ExpressionTrees, UndefinedT, BoolT, ThisT, TextT, NewObjectT, ObjectOfT, NewArrayT, MemberT, IndexT, CallT, CallWithT, NewT, none, more, NamedT, StatementTree, StatementTrees, no_statements, then_more, LetT, DoT, ReturnT, ShowT, SetT, DefineT, DefineAccessorT, DeleteT, TryT, FunctionT, StepsT, ScriptTree}
use Rattle.widl_text.specs.declared.key.Key.TheVariants as keys
use Rattle.widl_value.specs.declared.number.Number.TheVariants.{Whole}
use Rattle.widl_value.specs.declared.value.Value.TheVariants.{Num}
use Rattle.widl_trace.specs.EventLines.{line_of}
use Rattle.widl_runs.specs.declared.stop.Stop.TheVariants as stops
use Rattle.widl_runs.specs.Traces.{IsTrace, EndsDone, EndsUncaught, EndsStopped}
use Rattle.widl_runs.proofs.ShortLines.{worked, Every, IsShort}
use Rattle.widl_runs.proofs.Examples.{the_operation, nothing_defined, one_operation, number, name, only, d0, d1, d2, d5, d7, d11, d12, d15, d18, d19, d20, d99, d8, d3, d4}
use Rattle.widl_value.specs.declared.value.Value.TheVariants as values
use Rattle.widl_value.specs.IdlTerms.{AnyValue}
use Rattle.widl_store.specs.Objects.{plain_object, function_object}
use Rattle.widl_trace.specs.declared.code.Code.TheVariants as code
use Rattle.widl_trace.specs.EventTerms.{EventTerm, GetEvent, CallEvent, OperationEvent, ReturnEvent, ThrowEvent, ShowEvent, ErrorEvent, DoneEvent, UncaughtEvent, DepthStop, ProfileStop}

-- a list of statements, and of expressions
abbrev pub in_order : List StatementTree → StatementTrees
in_order [] = no_statements
in_order (s ∷ ss) = then_more s (in_order ss)

abbrev pub row : List ExpressionTree → ExpressionTrees
row [] = none
row (e ∷ es) = more e (row es)

-- a script with one function
abbrev pub with_one : Text → List Text → List Text → List StatementTree → List StatementTree → List StatementTree → ScriptTree
with_one f params names body before after = record {
  functions = record { name = f; params = params; names = names; body = in_order body } ∷ [];
  top = in_order (before ++ FunctionT 0 f params (in_order body) ∷ after);
}

-- 1. All expressions of a line come before the tests of its member: `function f()`, `return 1`, `end`, `try`, `set undefined.x = f()`,
-- `catch e`, `show e`, `end`.

abbrev value_first_lines : List (List ℕ)
value_first_lines = codes "call #18 this undefined ()" ∷ codes "ret 1" ∷ codes "error #19 member" ∷ codes "show #19" ∷ codes "done" ∷ []

value_first_told : value_first_lines ≡ map (line_of nothing_defined) (CallEvent (function_object 18) values.Undefined [] ∷ ReturnEvent (values.Num (Whole (pos 1))) ∷ ErrorEvent (plain_object 19) code.Member ∷ ShowEvent (values.Obj (plain_object 19)) ∷ DoneEvent ∷ [])
unfolding line_of
value_first_told = simp (d1, d18, d19) refl

value_first : IsTrace nothing_defined (with_one (codes "f") [] [] (ReturnT (number 1) ∷ []) [] (TryT (in_order (SetT (NamedT UndefinedT (codes "x")) (CallT (name (codes "f")) none) ∷ [])) (codes "e") (in_order (ShowT (name (codes "e")) ∷ [])) ∷ [])) 100 value_first_lines EndsDone
unfolding found_at is_fixed length_key realm_over intrinsics
value_first = worked _ _ 120 (refl, refl) value_first_told refl (refl, (refl, (refl, (refl, (refl, tt)))))

-- 2. A setter along the prototypes is called on the receiver: `function s(v)`, `define this.b = v`, `end`, `let o = object()`,
-- `define o.a get s set s`, `let p = object(o)`, `set p.a = 5`, `show p.b`, `show o.b`.

abbrev setter_on_receiver_lines : List (List ℕ)
setter_on_receiver_lines = codes "call #18 this #20 (5)" ∷ codes "ret undefined" ∷ codes "show 5" ∷ codes "show undefined" ∷ codes "done" ∷ []

setter_on_receiver_told : setter_on_receiver_lines ≡ map (line_of nothing_defined) (CallEvent (function_object 18) (values.Obj (plain_object 20)) ((values.Num (Whole (pos 5))) ∷ []) ∷ ReturnEvent values.Undefined ∷ ShowEvent (values.Num (Whole (pos 5))) ∷ ShowEvent values.Undefined ∷ DoneEvent ∷ [])
unfolding line_of
setter_on_receiver_told = simp (d5, d18, d20) refl

setter_on_receiver : IsTrace nothing_defined (with_one (codes "s") (codes "v" ∷ []) (codes "v" ∷ []) (DefineT (NamedT ThisT (codes "b")) (name (codes "v")) false ∷ []) [] (LetT (codes "o") NewObjectT ∷ DefineAccessorT (NamedT (name (codes "o")) (codes "a")) (name (codes "s")) (Some (name (codes "s"))) ∷ LetT (codes "p") (ObjectOfT (name (codes "o"))) ∷ SetT (NamedT (name (codes "p")) (codes "a")) (number 5) ∷ ShowT (MemberT (name (codes "p")) (codes "b")) ∷ ShowT (MemberT (name (codes "o")) (codes "b")) ∷ [])) 100 setter_on_receiver_lines EndsDone
unfolding found_at is_fixed length_key realm_over intrinsics
setter_on_receiver = worked _ _ 200 (refl, refl) setter_on_receiver_told refl (refl, (refl, (refl, (refl, (refl, tt)))))

-- 3. A name that is local in a function is local in all of it: `let x = 1`, `function f()`, `show x`, `let x = 2`, `show x`, `end`, `do f()`,
-- `show x`.

abbrev local_everywhere_lines : List (List ℕ)
local_everywhere_lines = codes "call #18 this undefined ()" ∷ codes "show undefined" ∷ codes "show 2" ∷ codes "ret undefined" ∷ codes "show 1" ∷ codes "done" ∷ []

local_everywhere_told : local_everywhere_lines ≡ map (line_of nothing_defined) (CallEvent (function_object 18) values.Undefined [] ∷ ShowEvent values.Undefined ∷ ShowEvent (values.Num (Whole (pos 2))) ∷ ReturnEvent values.Undefined ∷ ShowEvent (values.Num (Whole (pos 1))) ∷ DoneEvent ∷ [])
unfolding line_of
local_everywhere_told = simp (d1, d2, d18) refl

local_everywhere : IsTrace nothing_defined (with_one (codes "f") [] (codes "x" ∷ []) (ShowT (name (codes "x")) ∷ LetT (codes "x") (number 2) ∷ ShowT (name (codes "x")) ∷ []) (LetT (codes "x") (number 1) ∷ []) (DoT (CallT (name (codes "f")) none) ∷ ShowT (name (codes "x")) ∷ [])) 100 local_everywhere_lines EndsDone
unfolding found_at is_fixed length_key realm_over intrinsics
local_everywhere = worked _ _ 120 (refl, refl) local_everywhere_told refl (refl, (refl, (refl, (refl, (refl, (refl, tt))))))

-- 4. The declared arguments alone are those of an operation: `do N.f(1, 2)`. And `this`: `let f = N.f`, `do f(true)`.

abbrev declared_arguments_lines : List (List ℕ)
declared_arguments_lines = codes "call #19 this #18 (1, 2)" ∷ codes "op N.f#0 (1)" ∷ codes "ret undefined" ∷ codes "done" ∷ []

declared_arguments_told : declared_arguments_lines ≡ map (line_of one_operation) (CallEvent (function_object 19) (values.Obj (plain_object 18)) ((values.Num (Whole (pos 1))) ∷ (values.Num (Whole (pos 2))) ∷ []) ∷ OperationEvent the_operation (Some 0) (AnyValue (values.Num (Whole (pos 1))) ∷ []) ∷ ReturnEvent values.Undefined ∷ DoneEvent ∷ [])
unfolding line_of
declared_arguments_told = simp (d0, d1, d2, d18, d19) refl

declared_arguments : IsTrace one_operation (only (in_order (DoT (CallT (MemberT (name (codes "N")) (codes "f")) (row (number 1 ∷ number 2 ∷ []))) ∷ []))) 100 declared_arguments_lines EndsDone
unfolding found_at is_fixed length_key realm_over intrinsics
declared_arguments = worked _ _ 80 (refl, refl) declared_arguments_told refl (refl, (refl, (refl, (refl, tt))))

abbrev without_this_lines : List (List ℕ)
without_this_lines = codes "call #19 this undefined (true)" ∷ codes "op N.f#0 (true)" ∷ codes "ret undefined" ∷ codes "done" ∷ []

without_this_told : without_this_lines ≡ map (line_of one_operation) (CallEvent (function_object 19) values.Undefined ((values.Bool true) ∷ []) ∷ OperationEvent the_operation (Some 0) (AnyValue (values.Bool true) ∷ []) ∷ ReturnEvent values.Undefined ∷ DoneEvent ∷ [])
unfolding line_of
without_this_told = simp (d0, d19) refl

without_this : IsTrace one_operation (only (in_order (LetT (codes "f") (MemberT (name (codes "N")) (codes "f")) ∷ DoT (CallT (name (codes "f")) (row (BoolT true ∷ []))) ∷ []))) 100 without_this_lines EndsDone
unfolding found_at is_fixed length_key realm_over intrinsics
without_this = worked _ _ 80 (refl, refl) without_this_told refl (refl, (refl, (refl, (refl, tt))))

-- 5. A step that throws: `steps N.f#0`, `throw 7`, `end`, `do N.f(1)`. Six units.

abbrev step_throws_lines : List (List ℕ)
step_throws_lines = codes "call #19 this #18 (1)" ∷ codes "op N.f#0 (1)" ∷ codes "thr 7" ∷ codes "uncaught 7" ∷ []

step_throws_told : step_throws_lines ≡ map (line_of one_operation) (CallEvent (function_object 19) (values.Obj (plain_object 18)) ((values.Num (Whole (pos 1))) ∷ []) ∷ OperationEvent the_operation (Some 0) (AnyValue (values.Num (Whole (pos 1))) ∷ []) ∷ ThrowEvent (values.Num (Whole (pos 7))) ∷ UncaughtEvent (values.Num (Whole (pos 7))) ∷ [])
unfolding line_of
step_throws_told = simp (d0, d1, d7, d18, d19) refl

step_throws : IsTrace one_operation (only (in_order (StepsT (targets.Operation (codes "N") (codes "f") false 0) (steps.Throw (Num (Whole (pos 7))) ∷ []) ∷ DoT (CallT (MemberT (name (codes "N")) (codes "f")) (row (number 1 ∷ []))) ∷ []))) 6 step_throws_lines EndsUncaught
unfolding found_at is_fixed length_key realm_over intrinsics
step_throws = worked _ _ 80 (refl, refl) step_throws_told refl (refl, (refl, (refl, (refl, tt))))

-- 6. Functions that are there before the script, one that isn't built yet, and one that is never run: `do object().toString()`,
-- `do array().values()`, `do array().join()`, `do call(N.f.toString, 1)`.

abbrev built_in_lines : List (List ℕ)
built_in_lines = codes "call #8 this #18 ()" ∷ codes "get #18 @toStringTag" ∷ codes "ret \"[object Object]\"" ∷ codes "done" ∷ []

built_in_told : built_in_lines ≡ map (line_of nothing_defined) (CallEvent (function_object 8) (values.Obj (plain_object 18)) [] ∷ GetEvent (plain_object 18) (keys.Sym 2) ∷ ReturnEvent (values.Str (codes "[object Object]")) ∷ DoneEvent ∷ [])
unfolding line_of
built_in_told = simp (d8, d18) refl

built_in : IsTrace nothing_defined (only (in_order (DoT (CallT (MemberT NewObjectT (codes "toString")) none) ∷ []))) 6 built_in_lines EndsDone
unfolding found_at is_fixed length_key realm_over intrinsics
built_in = worked _ _ 80 (refl, refl) built_in_told refl (refl, (refl, (refl, (refl, tt))))

abbrev iterator_lines : List (List ℕ)
iterator_lines = codes "call #12 this #18 ()" ∷ codes "ret #19" ∷ codes "done" ∷ []

iterator_told : iterator_lines ≡ map (line_of nothing_defined) (CallEvent (function_object 12) (values.Obj (plain_object 18)) [] ∷ ReturnEvent (values.Obj (plain_object 19)) ∷ DoneEvent ∷ [])
unfolding line_of
iterator_told = simp (d12, d18, d19) refl

iterator : IsTrace nothing_defined (only (in_order (DoT (CallT (MemberT (NewArrayT none) (codes "values")) none) ∷ []))) 6 iterator_lines EndsDone
unfolding found_at is_fixed length_key realm_over intrinsics
iterator = worked _ _ 80 (refl, refl) iterator_told refl (refl, (refl, (refl, tt)))

abbrev not_yet_lines : List (List ℕ)
not_yet_lines = codes "call #11 this #18 ()" ∷ codes "stop profile 99" ∷ []

not_yet_told : not_yet_lines ≡ map (line_of nothing_defined) (CallEvent (function_object 11) (values.Obj (plain_object 18)) [] ∷ ProfileStop 99 ∷ [])
unfolding line_of
not_yet_told = simp (d11, d18, d99) refl

not_yet : IsTrace nothing_defined (only (in_order (DoT (CallT (MemberT (NewArrayT none) (codes "join")) none) ∷ []))) 100 not_yet_lines (EndsStopped (stops.Profile 99))
unfolding found_at is_fixed length_key realm_over intrinsics
not_yet = worked _ _ 60 (refl, refl) not_yet_told refl (refl, (refl, tt))

abbrev never_lines : List (List ℕ)
never_lines = codes "call #15 this 1 ()" ∷ codes "stop profile 3" ∷ []

never_told : never_lines ≡ map (line_of one_operation) (CallEvent (function_object 15) (values.Num (Whole (pos 1))) [] ∷ ProfileStop 3 ∷ [])
unfolding line_of
never_told = simp (d1, d15, d3) refl

never : IsTrace one_operation (only (in_order (DoT (CallWithT (MemberT (MemberT (name (codes "N")) (codes "f")) (codes "toString")) (number 1) none) ∷ []))) 100 never_lines (EndsStopped (stops.Profile 3))
unfolding found_at is_fixed length_key realm_over intrinsics
never = worked _ _ 60 (refl, refl) never_told refl (refl, (refl, tt))

-- 7. A function isn't there before its statement: `do f()`, `function f()`, `end`.

abbrev not_hoisted_lines : List (List ℕ)
not_hoisted_lines = codes "error #18 not-callable" ∷ codes "uncaught #18" ∷ []

not_hoisted_told : not_hoisted_lines ≡ map (line_of nothing_defined) (ErrorEvent (plain_object 18) code.NotCallable ∷ UncaughtEvent (values.Obj (plain_object 18)) ∷ [])
unfolding line_of
not_hoisted_told = simp d18 refl

not_hoisted : IsTrace nothing_defined (with_one (codes "f") [] [] [] (DoT (CallT (name (codes "f")) none) ∷ []) []) 100 not_hoisted_lines EndsUncaught
unfolding found_at is_fixed length_key realm_over intrinsics
not_hoisted = worked _ _ 60 (refl, refl) not_hoisted_told refl (refl, (refl, tt))

-- 8. The key's expression comes before the value's test: `do undefined[object()]`. Only interface objects construct: `do new(object())`.
-- A member of a text: `do "a".b`. An object as a key: `let o = object()`, `do o[o]`. The length of an array stays: `let a = array()`,
-- `delete a.length`.

abbrev key_before_test_lines : List (List ℕ)
key_before_test_lines = codes "error #19 member" ∷ codes "uncaught #19" ∷ []

key_before_test_told : key_before_test_lines ≡ map (line_of nothing_defined) (ErrorEvent (plain_object 19) code.Member ∷ UncaughtEvent (values.Obj (plain_object 19)) ∷ [])
unfolding line_of
key_before_test_told = simp d19 refl

key_before_test : IsTrace nothing_defined (only (in_order (DoT (IndexT UndefinedT NewObjectT) ∷ []))) 100 key_before_test_lines EndsUncaught
unfolding found_at is_fixed length_key realm_over intrinsics
key_before_test = worked _ _ 60 (refl, refl) key_before_test_told refl (refl, (refl, tt))

abbrev no_constructor_lines : List (List ℕ)
no_constructor_lines = codes "error #19 no-constructor" ∷ codes "uncaught #19" ∷ []

no_constructor_told : no_constructor_lines ≡ map (line_of nothing_defined) (ErrorEvent (plain_object 19) code.NoConstructor ∷ UncaughtEvent (values.Obj (plain_object 19)) ∷ [])
unfolding line_of
no_constructor_told = simp d19 refl

no_constructor : IsTrace nothing_defined (only (in_order (DoT (NewT NewObjectT none) ∷ []))) 100 no_constructor_lines EndsUncaught
unfolding found_at is_fixed length_key realm_over intrinsics
no_constructor = worked _ _ 60 (refl, refl) no_constructor_told refl (refl, (refl, tt))

abbrev primitive_member_lines : List (List ℕ)
primitive_member_lines = codes "stop profile 4" ∷ []

primitive_member_told : primitive_member_lines ≡ map (line_of nothing_defined) (ProfileStop 4 ∷ [])
unfolding line_of
primitive_member_told = simp d4 refl

primitive_member : IsTrace nothing_defined (only (in_order (DoT (MemberT (TextT (codes "a")) (codes "b")) ∷ []))) 100 primitive_member_lines (EndsStopped (stops.Profile 4))
unfolding found_at is_fixed length_key realm_over intrinsics
primitive_member = worked _ _ 60 (refl, refl) primitive_member_told refl (refl, tt)

abbrev object_key_lines : List (List ℕ)
object_key_lines = codes "error #19 key" ∷ codes "uncaught #19" ∷ []

object_key_told : object_key_lines ≡ map (line_of nothing_defined) (ErrorEvent (plain_object 19) code.Key ∷ UncaughtEvent (values.Obj (plain_object 19)) ∷ [])
unfolding line_of
object_key_told = simp d19 refl

object_key : IsTrace nothing_defined (only (in_order (LetT (codes "o") NewObjectT ∷ DoT (IndexT (name (codes "o")) (name (codes "o"))) ∷ []))) 100 object_key_lines EndsUncaught
unfolding found_at is_fixed length_key realm_over intrinsics
object_key = worked _ _ 60 (refl, refl) object_key_told refl (refl, (refl, tt))

abbrev length_stays_lines : List (List ℕ)
length_stays_lines = codes "error #19 not-configurable" ∷ codes "uncaught #19" ∷ []

length_stays_told : length_stays_lines ≡ map (line_of nothing_defined) (ErrorEvent (plain_object 19) code.NotConfigurable ∷ UncaughtEvent (values.Obj (plain_object 19)) ∷ [])
unfolding line_of
length_stays_told = simp d19 refl

length_stays : IsTrace nothing_defined (only (in_order (LetT (codes "a") (NewArrayT none) ∷ DeleteT (NamedT (name (codes "a")) (codes "length")) ∷ []))) 100 length_stays_lines EndsUncaught
unfolding found_at is_fixed length_key realm_over intrinsics
length_stays = worked _ _ 60 (refl, refl) length_stays_told refl (refl, (refl, tt))

-- 9. As many calls are open as may be: `function g()`, `return o.x`, `end`, `let o = object()`, `define o.x get g`, `do o.x`.

abbrev getter_call : EventTerm
getter_call = CallEvent (function_object 18) (values.Obj (plain_object 19)) []

abbrev call_events : ℕ → List EventTerm
call_events zero = DepthStop ∷ []
call_events (suc n) = getter_call ∷ call_events n

abbrev call_lines : ℕ → List (List ℕ)
call_lines zero = codes "stop depth" ∷ []
call_lines (suc n) = codes "call #18 this #19 ()" ∷ call_lines n

getter_call_told : codes "call #18 this #19 ()" ≡ line_of nothing_defined getter_call
unfolding line_of
getter_call_told = simp (d18, d19) refl

calls_told : (n : ℕ) → call_lines n ≡ map (line_of nothing_defined) (call_events n)
unfolding line_of
calls_told zero = refl
calls_told (suc n) = ap (λ (line : List ℕ). line ∷ call_lines n) getter_call_told ∙ ap (λ (lines : List (List ℕ)). line_of nothing_defined getter_call ∷ lines) (calls_told n)

all_short : (n : ℕ) → Every IsShort (call_lines n)
all_short zero = (refl, tt)
all_short (suc n) = (refl, all_short n)

too_deep : IsTrace nothing_defined (with_one (codes "g") [] [] (ReturnT (MemberT (name (codes "o")) (codes "x")) ∷ []) [] (LetT (codes "o") NewObjectT ∷ DefineAccessorT (NamedT (name (codes "o")) (codes "x")) (name (codes "g")) None ∷ DoT (MemberT (name (codes "o")) (codes "x")) ∷ [])) 100000 (call_lines 100) (EndsStopped stops.Depth)
unfolding found_at is_fixed length_key realm_over intrinsics
too_deep = worked _ _ 2500 (refl, refl) (calls_told 100) refl (all_short 100)
