-- Runs worked by hand: each trace with its lines and its end, and what a budget that is too small leaves of it.
use Rattle.std.proofs.Common.{◌≡◌, ℕ, false, List, [], ◌∷◌, ◌++◌, map, Some, None, arith, refl, ap}
use Rattle.std.specs.Prelude.{codes, pos, decimal}
use Rattle.widl_idl.specs.declared.argument.Optionality.TheVariants.{Required}
use Rattle.widl_idl.specs.declared.interface.Slot.TheVariants as slots
use Rattle.widl_idl.specs.DefinitionTerms.{DefsTerm, MembersTerm, SigTerm}
use Rattle.widl_text.specs.declared.place.Place.{Place}
use Rattle.widl_idl.specs.Terms.{AnyType}
use Rattle.widl_value.specs.declared.number.Number.TheVariants.{Whole}
use Rattle.widl_store.specs.Found.{found_at}
use Rattle.widl_store.specs.Effects.{is_fixed}
use Rattle.widl_store.specs.Intrinsics.{intrinsics}
use Rattle.widl_store.specs.Realm.{realm_over}
use Rattle.widl_store.specs.Objects.{length_key, plain_object, function_object}
use Rattle.widl_value.specs.declared.value.Value.TheVariants as values
use Rattle.widl_value.specs.IdlTerms.{AnyValue}
use Rattle.widl_idl.specs.declared.callee.Callee.{Callee}
use Rattle.widl_idl.specs.declared.callee.Owner.TheVariants.{Space}
use Rattle.widl_idl.specs.declared.callee.Part.TheVariants.{Op}
use Rattle.widl_trace.specs.declared.code.Code.TheVariants as code
use Rattle.widl_trace.specs.EventTerms.{CallEvent, OperationEvent, ReturnEvent, ThrowEvent, ShowEvent, ErrorEvent, DoneEvent, UncaughtEvent, BudgetStop, ProfileStop}
use Rattle.widl_script_tree.specs.declared.steps.Source.TheVariants as sources
use Rattle.widl_script_tree.specs.declared.steps.StepLine.TheVariants as steps
use Rattle.widl_script_tree.specs.declared.steps.Target.TheVariants as targets
use Rattle.widl_script_tree.specs.Trees.{ExpressionTree, NumberT, NameT, ThisT, TextT, NewObjectT, NewArrayT, MemberT, CallT, none, more, NamedT, StatementTrees, no_statements, then_more, LetT, DoT, ThrowT, ShowT, SetT, DefineT, DefineAccessorT, TryT, FunctionT, StepsT, ScriptTree}
use Rattle.widl_trace.specs.EventLines.{line_of}
use Rattle.widl_runs.specs.declared.stop.Stop.TheVariants as stops
use Rattle.widl_runs.specs.Traces.{IsTrace, EndsDone, EndsUncaught, EndsStopped}
use Rattle.widl_runs.proofs.ShortLines.{worked, one_digit, two_digits}

-- an empty list of definitions; and `namespace N { any f(any a); };`
abbrev pub nothing_defined : DefsTerm
nothing_defined = record { ifaces = []; spaces = []; dicts = []; choices = []; callback_fns = []; callback_ifaces = [] }

abbrev pub place : Place
place = record { file = 0; at = 0 }

abbrev pub signature : SigTerm
signature = record { at = place; args = record { name = codes "a"; ty = AnyType; opt = Required; value = None } ∷ []; returned = AnyType }

abbrev pub members : MembersTerm
members = record { ops = record { name = codes "f"; fixed = false; sigs = signature ∷ [] } ∷ []; attrs = []; consts = []; order = slots.Op 0 ∷ [] }

abbrev pub one_operation : DefsTerm
one_operation = record { ifaces = []; spaces = record { at = place; name = codes "N"; members = members } ∷ []; dicts = []; choices = []; callback_fns = []; callback_ifaces = [] }

abbrev pub the_operation : Callee
the_operation = record { owner = Space 0; part = Op 0 }

abbrev pub number : ℕ → ExpressionTree
number n = NumberT (Whole (pos n))

abbrev pub name : List ℕ → ExpressionTree
name text = NameT text

abbrev pub only : StatementTrees → ScriptTree
only top = record { functions = []; top = top }

pub d0 : decimal 0 ≡ 48 ∷ []
d0 = one_digit 0 (omega arith)

pub d1 : decimal 1 ≡ 49 ∷ []
d1 = one_digit 1 (omega arith)

pub d2 : decimal 2 ≡ 50 ∷ []
d2 = one_digit 2 (omega arith)

pub d3 : decimal 3 ≡ 51 ∷ []
d3 = one_digit 3 (omega arith)

pub d4 : decimal 4 ≡ 52 ∷ []
d4 = one_digit 4 (omega arith)

pub d5 : decimal 5 ≡ 53 ∷ []
d5 = one_digit 5 (omega arith)

pub d7 : decimal 7 ≡ 55 ∷ []
d7 = one_digit 7 (omega arith)

pub d8 : decimal 8 ≡ 56 ∷ []
d8 = one_digit 8 (omega arith)

pub d11 : decimal 11 ≡ 49 ∷ 49 ∷ []
d11 = two_digits 11 (omega arith) (omega arith)

pub d12 : decimal 12 ≡ 49 ∷ 50 ∷ []
d12 = two_digits 12 (omega arith) (omega arith)

pub d15 : decimal 15 ≡ 49 ∷ 53 ∷ []
d15 = two_digits 15 (omega arith) (omega arith)

pub d18 : decimal 18 ≡ 49 ∷ 56 ∷ []
d18 = two_digits 18 (omega arith) (omega arith)

pub d19 : decimal 19 ≡ 49 ∷ 57 ∷ []
d19 = two_digits 19 (omega arith) (omega arith)

pub d20 : decimal 20 ≡ 50 ∷ 48 ∷ []
d20 = two_digits 20 (omega arith) (omega arith)

pub d21 : decimal 21 ≡ 50 ∷ 49 ∷ []
d21 = two_digits 21 (omega arith) (omega arith)

pub d99 : decimal 99 ≡ 57 ∷ 57 ∷ []
d99 = two_digits 99 (omega arith) (omega arith)

-- 1. The empty script: its last line is paid like any other.

empty_stops : IsTrace nothing_defined (only no_statements) 0 (codes "stop budget" ∷ []) (EndsStopped stops.Budget)
unfolding line_of realm_over
empty_stops = worked _ _ 10 (refl, refl) refl refl (refl, tt)

empty_done : IsTrace nothing_defined (only no_statements) 1 (codes "done" ∷ []) EndsDone
unfolding line_of realm_over
empty_done = worked _ _ 10 (refl, refl) refl refl (refl, tt)

-- 2. An operation that returns its argument: `steps N.f#0`, `return arg 0`, `end`, `let o = object()`, `define o.a = 1`, `do N.f(o)`.
-- Nine units: three statements, the object, the step, four lines. With eight the last line isn't written.

abbrev returning : ScriptTree
returning = only (
    then_more (StepsT (targets.Operation (codes "N") (codes "f") false 0) (steps.Return (sources.Arg 0) ∷ []))
    (then_more (LetT (codes "o") NewObjectT)
    (then_more (DefineT (NamedT (name (codes "o")) (codes "a")) (number 1) false)
    (then_more (DoT (CallT (MemberT (name (codes "N")) (codes "f")) (more (name (codes "o")) none))) no_statements))))

abbrev returning_done_lines : List (List ℕ)
returning_done_lines = codes "call #19 this #18 (#20)" ∷ codes "op N.f#0 (#20)" ∷ codes "ret #20" ∷ codes "done" ∷ []

returning_done_told : returning_done_lines ≡ map (line_of one_operation) (CallEvent (function_object 19) (values.Obj (plain_object 18)) ((values.Obj (plain_object 20)) ∷ []) ∷ OperationEvent the_operation (Some 0) (AnyValue (values.Obj (plain_object 20)) ∷ []) ∷ ReturnEvent (values.Obj (plain_object 20)) ∷ DoneEvent ∷ [])
unfolding line_of
returning_done_told = simp (d0, d18, d19, d20) refl

returning_done : IsTrace one_operation returning 9 returning_done_lines EndsDone
unfolding found_at is_fixed length_key realm_over intrinsics
returning_done = worked _ _ 80 (refl, refl) returning_done_told refl (refl, (refl, (refl, (refl, tt))))

abbrev returning_stops_lines : List (List ℕ)
returning_stops_lines = codes "call #19 this #18 (#20)" ∷ codes "op N.f#0 (#20)" ∷ codes "ret #20" ∷ codes "stop budget" ∷ []

returning_stops_told : returning_stops_lines ≡ map (line_of one_operation) (CallEvent (function_object 19) (values.Obj (plain_object 18)) ((values.Obj (plain_object 20)) ∷ []) ∷ OperationEvent the_operation (Some 0) (AnyValue (values.Obj (plain_object 20)) ∷ []) ∷ ReturnEvent (values.Obj (plain_object 20)) ∷ BudgetStop ∷ [])
unfolding line_of
returning_stops_told = simp (d0, d18, d19, d20) refl

returning_stops : IsTrace one_operation returning 8 returning_stops_lines (EndsStopped stops.Budget)
unfolding found_at is_fixed length_key realm_over intrinsics
returning_stops = worked _ _ 80 (refl, refl) returning_stops_told refl (refl, (refl, (refl, (refl, tt))))

-- 3. Too few arguments: `do N.f()`.

abbrev calling : ScriptTree
calling = only (then_more (DoT (CallT (MemberT (name (codes "N")) (codes "f")) none)) no_statements)

abbrev calling_uncaught_lines : List (List ℕ)
calling_uncaught_lines = codes "call #19 this #18 ()" ∷ codes "error #20 no-overload" ∷ codes "thr #20" ∷ codes "uncaught #20" ∷ []

calling_uncaught_told : calling_uncaught_lines ≡ map (line_of one_operation) (CallEvent (function_object 19) (values.Obj (plain_object 18)) [] ∷ ErrorEvent (plain_object 20) code.NoOverload ∷ ThrowEvent (values.Obj (plain_object 20)) ∷ UncaughtEvent (values.Obj (plain_object 20)) ∷ [])
unfolding line_of
calling_uncaught_told = simp (d18, d19, d20) refl

calling_uncaught : IsTrace one_operation calling 100000 calling_uncaught_lines EndsUncaught
unfolding found_at is_fixed length_key realm_over intrinsics
calling_uncaught = worked _ _ 60 (refl, refl) calling_uncaught_told refl (refl, (refl, (refl, (refl, tt))))

-- 4. The length of an array can't be set: `let a = array(1)`, `set a.length = 0`.

abbrev shrinking : ScriptTree
shrinking = only (
    then_more (LetT (codes "a") (NewArrayT (more (number 1) none)))
    (then_more (SetT (NamedT (name (codes "a")) (codes "length")) (number 0)) no_statements))

abbrev shrinking_stops_lines : List (List ℕ)
shrinking_stops_lines = codes "stop profile 2" ∷ []

shrinking_stops_told : shrinking_stops_lines ≡ map (line_of nothing_defined) (ProfileStop 2 ∷ [])
unfolding line_of
shrinking_stops_told = simp d2 refl

shrinking_stops : IsTrace nothing_defined shrinking 100000 shrinking_stops_lines (EndsStopped (stops.Profile 2))
unfolding found_at is_fixed length_key realm_over intrinsics
shrinking_stops = worked _ _ 60 (refl, refl) shrinking_stops_told refl (refl, tt)

-- 5. A getter that defines a property and throws, and what catches it: `function g()`, `define this.n = 1`, `throw "x"`, `end`,
-- `let o = object()`, `define o.a get g`, `try`, `do o.a`, `catch e`, `show e`, `show o.n`, `end`. Sixteen units; with fifteen the
-- last line isn't written.

abbrev getter_body : StatementTrees
getter_body = then_more (DefineT (NamedT ThisT (codes "n")) (number 1) false) (then_more (ThrowT (TextT (codes "x"))) no_statements)

abbrev throwing : ScriptTree
throwing = record {
  functions = record { name = codes "g"; params = []; names = []; body = getter_body } ∷ [];
  top =
      then_more (FunctionT 0 (codes "g") [] getter_body)
      (then_more (LetT (codes "o") NewObjectT)
      (then_more (DefineAccessorT (NamedT (name (codes "o")) (codes "a")) (name (codes "g")) None)
      (then_more (TryT
      (then_more (DoT (MemberT (name (codes "o")) (codes "a"))) no_statements)
      (codes "e")
      (then_more (ShowT (name (codes "e"))) (then_more (ShowT (MemberT (name (codes "o")) (codes "n"))) no_statements)))
      no_statements)));
}

abbrev throwing_done_lines : List (List ℕ)
throwing_done_lines = codes "call #18 this #19 ()" ∷ codes "thr \"x\"" ∷ codes "show \"x\"" ∷ codes "show 1" ∷ codes "done" ∷ []

throwing_done_told : throwing_done_lines ≡ map (line_of nothing_defined) (CallEvent (function_object 18) (values.Obj (plain_object 19)) [] ∷ ThrowEvent (values.Str (codes "x")) ∷ ShowEvent (values.Str (codes "x")) ∷ ShowEvent (values.Num (Whole (pos 1))) ∷ DoneEvent ∷ [])
unfolding line_of
throwing_done_told = simp (d1, d18, d19) refl

throwing_done : IsTrace nothing_defined throwing 16 throwing_done_lines EndsDone
unfolding found_at is_fixed length_key realm_over intrinsics
throwing_done = worked _ _ 120 (refl, refl) throwing_done_told refl (refl, (refl, (refl, (refl, (refl, tt)))))

abbrev throwing_stops_lines : List (List ℕ)
throwing_stops_lines = codes "call #18 this #19 ()" ∷ codes "thr \"x\"" ∷ codes "show \"x\"" ∷ codes "show 1" ∷ codes "stop budget" ∷ []

throwing_stops_told : throwing_stops_lines ≡ map (line_of nothing_defined) (CallEvent (function_object 18) (values.Obj (plain_object 19)) [] ∷ ThrowEvent (values.Str (codes "x")) ∷ ShowEvent (values.Str (codes "x")) ∷ ShowEvent (values.Num (Whole (pos 1))) ∷ BudgetStop ∷ [])
unfolding line_of
throwing_stops_told = simp (d1, d18, d19) refl

throwing_stops : IsTrace nothing_defined throwing 15 throwing_stops_lines (EndsStopped stops.Budget)
unfolding found_at is_fixed length_key realm_over intrinsics
throwing_stops = worked _ _ 120 (refl, refl) throwing_stops_told refl (refl, (refl, (refl, (refl, (refl, tt)))))

-- With each smaller budget: as many of its lines as are paid, and then the stop.

abbrev prefix_stops : ℕ → List (List ℕ) → Type 0
prefix_stops budget lines = IsTrace nothing_defined throwing budget (lines ++ codes "stop budget" ∷ []) (EndsStopped stops.Budget)

abbrev call_of_getter : List ℕ
call_of_getter = codes "call #18 this #19 ()"

abbrev thrown : List ℕ
thrown = codes "thr \"x\""

abbrev shown : List ℕ
shown = codes "show \"x\""

getter_called : call_of_getter ≡ line_of nothing_defined (CallEvent (function_object 18) (values.Obj (plain_object 19)) [])
unfolding line_of
getter_called = simp (d18, d19) refl

stops_0 : prefix_stops 0 []
unfolding line_of found_at is_fixed length_key realm_over intrinsics
stops_0 = worked _ _ 120 (refl, refl) refl refl (refl, tt)

stops_1 : prefix_stops 1 []
unfolding line_of found_at is_fixed length_key realm_over intrinsics
stops_1 = worked _ _ 120 (refl, refl) refl refl (refl, tt)

stops_2 : prefix_stops 2 []
unfolding line_of found_at is_fixed length_key realm_over intrinsics
stops_2 = worked _ _ 120 (refl, refl) refl refl (refl, tt)

stops_3 : prefix_stops 3 []
unfolding line_of found_at is_fixed length_key realm_over intrinsics
stops_3 = worked _ _ 120 (refl, refl) refl refl (refl, tt)

stops_4 : prefix_stops 4 []
unfolding line_of found_at is_fixed length_key realm_over intrinsics
stops_4 = worked _ _ 120 (refl, refl) refl refl (refl, tt)

stops_5 : prefix_stops 5 []
unfolding line_of found_at is_fixed length_key realm_over intrinsics
stops_5 = worked _ _ 120 (refl, refl) refl refl (refl, tt)

stops_6 : prefix_stops 6 []
unfolding line_of found_at is_fixed length_key realm_over intrinsics
stops_6 = worked _ _ 120 (refl, refl) refl refl (refl, tt)

stops_7 : prefix_stops 7 []
unfolding line_of found_at is_fixed length_key realm_over intrinsics
stops_7 = worked _ _ 120 (refl, refl) refl refl (refl, tt)

stops_8 : prefix_stops 8 (call_of_getter ∷ [])
unfolding line_of found_at is_fixed length_key realm_over intrinsics
stops_8 = worked _ _ 120 (refl, refl) (ap (λ (line : List ℕ). line ∷ codes "stop budget" ∷ []) getter_called) refl (refl, (refl, tt))

stops_9 : prefix_stops 9 (call_of_getter ∷ [])
unfolding line_of found_at is_fixed length_key realm_over intrinsics
stops_9 = worked _ _ 120 (refl, refl) (ap (λ (line : List ℕ). line ∷ codes "stop budget" ∷ []) getter_called) refl (refl, (refl, tt))

stops_10 : prefix_stops 10 (call_of_getter ∷ [])
unfolding line_of found_at is_fixed length_key realm_over intrinsics
stops_10 = worked _ _ 120 (refl, refl) (ap (λ (line : List ℕ). line ∷ codes "stop budget" ∷ []) getter_called) refl (refl, (refl, tt))

stops_11 : prefix_stops 11 (call_of_getter ∷ thrown ∷ [])
unfolding line_of found_at is_fixed length_key realm_over intrinsics
stops_11 = worked _ _ 120 (refl, refl) (ap (λ (line : List ℕ). line ∷ thrown ∷ codes "stop budget" ∷ []) getter_called) refl (refl, (refl, (refl, tt)))

stops_12 : prefix_stops 12 (call_of_getter ∷ thrown ∷ [])
unfolding line_of found_at is_fixed length_key realm_over intrinsics
stops_12 = worked _ _ 120 (refl, refl) (ap (λ (line : List ℕ). line ∷ thrown ∷ codes "stop budget" ∷ []) getter_called) refl (refl, (refl, (refl, tt)))

stops_13 : prefix_stops 13 (call_of_getter ∷ thrown ∷ shown ∷ [])
unfolding line_of found_at is_fixed length_key realm_over intrinsics
stops_13 = worked _ _ 120 (refl, refl) (ap (λ (line : List ℕ). line ∷ thrown ∷ shown ∷ codes "stop budget" ∷ []) getter_called) refl (refl, (refl, (refl, (refl, tt))))

stops_14 : prefix_stops 14 (call_of_getter ∷ thrown ∷ shown ∷ [])
unfolding line_of found_at is_fixed length_key realm_over intrinsics
stops_14 = worked _ _ 120 (refl, refl) (ap (λ (line : List ℕ). line ∷ thrown ∷ shown ∷ codes "stop budget" ∷ []) getter_called) refl (refl, (refl, (refl, (refl, tt))))
