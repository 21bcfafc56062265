-- Runs worked by hand whose arguments are converted: what a budget leaves of an error, and what a getter does in the middle of a conversion.
use Rattle.std.proofs.Common.{◌≡◌, ℕ, false, List, [], ◌∷◌, ◌++◌, map, None, arith, refl, ◌∙◌, ap}
use Rattle.std.specs.Prelude.{codes, pos, decimal}
use Rattle.std.proofs.lemmas.Fmt.{decimal_step}
use Rattle.widl_text.specs.declared.key.Key.TheVariants as keys
use Rattle.widl_idl.specs.declared.argument.Optionality.TheVariants.{Required}
use Rattle.widl_idl.specs.declared.int_kind.IntKind.TheVariants.{Octet, Long}
use Rattle.widl_idl.specs.declared.int_kind.Mode.TheVariants.{Wrap, Enforce}
use Rattle.widl_idl.specs.declared.interface.Slot.TheVariants as slots
use Rattle.widl_idl.specs.DefinitionTerms.{DefsTerm}
use Rattle.widl_idl.specs.Terms.{TypeTerm, IntegerType, UndefinedType}
use Rattle.widl_value.specs.declared.number.Number.TheVariants.{Whole}
use Rattle.widl_value.specs.declared.value.Value.TheVariants as values
use Rattle.widl_store.specs.Effects.{is_fixed}
use Rattle.widl_store.specs.Found.{found_at}
use Rattle.widl_store.specs.Intrinsics.{intrinsics}
use Rattle.widl_store.specs.Objects.{length_key, plain_object, function_object}
use Rattle.widl_store.specs.Realm.{realm_over}
use Rattle.widl_script_tree.specs.Trees.{TextT, NewObjectT, MemberT, CallT, NamedT, LetT, DoT, ThrowT, DefineAccessorT, ScriptTree}
use Rattle.widl_trace.specs.declared.code.Code.TheVariants as code
use Rattle.widl_trace.specs.EventLines.{line_of}
use Rattle.widl_trace.specs.EventTerms.{EventTerm, CallEvent, GetEvent, ThrowEvent, ErrorEvent, UncaughtEvent, BudgetStop}
use Rattle.widl_runs.specs.declared.stop.Stop.TheVariants as stops
use Rattle.widl_runs.specs.Traces.{IsTrace, EndsUncaught, EndsStopped}
use Rattle.widl_runs.proofs.Examples.{place, number, name, only, d18, d19, d20, d21}
use Rattle.widl_runs.proofs.MoreExamples.{in_order, row, with_one}
use Rattle.widl_runs.proofs.ShortLines.{worked, two_digits}

-- `namespace N { undefined f(T a); };`
abbrev converting : TypeTerm → DefsTerm
converting t = record {
  ifaces = [];
  spaces = record {
    at = place;
    name = codes "N";
    members = record {
      ops = record {
        name = codes "f";
        fixed = false;
        sigs = record { at = place; args = record { name = codes "a"; ty = t; opt = Required; value = None } ∷ []; returned = UndefinedType } ∷ [];
      } ∷ [];
      attrs = [];
      consts = [];
      order = slots.Op 0 ∷ [];
    };
  } ∷ [];
  dicts = [];
  choices = [];
  callback_fns = [];
  callback_ifaces = [];
}

-- 1. `[EnforceRange] octet a`, `do N.f(256)`: a statement, the line of the call, the object of the error, its line, and two lines more. The run
-- stops between the object and its line as anywhere else.

abbrev octet : DefsTerm
octet = converting (IntegerType Octet Enforce)

abbrev calls_256 : ScriptTree
calls_256 = only (in_order (DoT (CallT (MemberT (name (codes "N")) (codes "f")) (row (number 256 ∷ []))) ∷ []))

abbrev call_256 : EventTerm
call_256 = CallEvent (function_object 19) (values.Obj (plain_object 18)) (values.Num (Whole (pos 256)) ∷ [])

d256 : decimal 256 ≡ 50 ∷ 53 ∷ 54 ∷ []
d256 = decimal_step 256 (omega arith) (omega arith) ∙ ap (λ (ds : List ℕ). ds ++ 54 ∷ []) (two_digits 25 (omega arith) (omega arith))

told_stop : codes "call #19 this #18 (256)" ∷ codes "stop budget" ∷ [] ≡ map (line_of octet) (call_256 ∷ BudgetStop ∷ [])
unfolding line_of
told_stop = simp (d18, d19, d256) refl

told_error : codes "call #19 this #18 (256)" ∷ codes "error #20 range" ∷ codes "stop budget" ∷ [] ≡ map (line_of octet) (call_256 ∷ ErrorEvent (plain_object 20) code.Range ∷ BudgetStop ∷ [])
unfolding line_of
told_error = simp (d18, d19, d20, d256) refl

told_thrown : codes "call #19 this #18 (256)" ∷ codes "error #20 range" ∷ codes "thr #20" ∷ codes "stop budget" ∷ [] ≡ map (line_of octet) (call_256 ∷ ErrorEvent (plain_object 20) code.Range ∷ ThrowEvent (values.Obj (plain_object 20)) ∷ BudgetStop ∷ [])
unfolding line_of
told_thrown = simp (d18, d19, d20, d256) refl

told_whole : codes "call #19 this #18 (256)" ∷ codes "error #20 range" ∷ codes "thr #20" ∷ codes "uncaught #20" ∷ [] ≡ map (line_of octet) (call_256 ∷ ErrorEvent (plain_object 20) code.Range ∷ ThrowEvent (values.Obj (plain_object 20)) ∷ UncaughtEvent (values.Obj (plain_object 20)) ∷ [])
unfolding line_of
told_whole = simp (d18, d19, d20, d256) refl

range_1 : IsTrace octet calls_256 1 (codes "stop budget" ∷ []) (EndsStopped stops.Budget)
unfolding found_at is_fixed length_key realm_over intrinsics line_of
range_1 = worked _ _ 80 (refl, refl) refl refl (refl, tt)

range_2 : IsTrace octet calls_256 2 (codes "call #19 this #18 (256)" ∷ codes "stop budget" ∷ []) (EndsStopped stops.Budget)
unfolding found_at is_fixed length_key realm_over intrinsics
range_2 = worked _ _ 80 (refl, refl) told_stop refl (refl, (refl, tt))

range_3 : IsTrace octet calls_256 3 (codes "call #19 this #18 (256)" ∷ codes "stop budget" ∷ []) (EndsStopped stops.Budget)
unfolding found_at is_fixed length_key realm_over intrinsics
range_3 = worked _ _ 80 (refl, refl) told_stop refl (refl, (refl, tt))

range_4 : IsTrace octet calls_256 4 (codes "call #19 this #18 (256)" ∷ codes "error #20 range" ∷ codes "stop budget" ∷ []) (EndsStopped stops.Budget)
unfolding found_at is_fixed length_key realm_over intrinsics
range_4 = worked _ _ 80 (refl, refl) told_error refl (refl, (refl, (refl, tt)))

range_5 : IsTrace octet calls_256 5 (codes "call #19 this #18 (256)" ∷ codes "error #20 range" ∷ codes "thr #20" ∷ codes "stop budget" ∷ []) (EndsStopped stops.Budget)
unfolding found_at is_fixed length_key realm_over intrinsics
range_5 = worked _ _ 80 (refl, refl) told_thrown refl (refl, (refl, (refl, (refl, tt))))

range_6 : IsTrace octet calls_256 6 (codes "call #19 this #18 (256)" ∷ codes "error #20 range" ∷ codes "thr #20" ∷ codes "uncaught #20" ∷ []) EndsUncaught
unfolding found_at is_fixed length_key realm_over intrinsics
range_6 = worked _ _ 80 (refl, refl) told_whole refl (refl, (refl, (refl, (refl, tt))))

-- 2. `long a`, and a getter of `valueOf` that throws a text: `function g()`, `throw "x"`, `end`, `let o = object()`, `define o.valueOf get g`,
-- `do N.f(o)`. What the getter throws, the conversion throws, and so the call.

abbrev long : DefsTerm
long = converting (IntegerType Long Wrap)

abbrev throwing : ScriptTree
throwing = with_one (codes "g") [] [] (ThrowT (TextT (codes "x")) ∷ []) [] (LetT (codes "o") NewObjectT ∷ DefineAccessorT (NamedT (name (codes "o")) (codes "valueOf")) (name (codes "g")) None ∷ DoT (CallT (MemberT (name (codes "N")) (codes "f")) (row (name (codes "o") ∷ []))) ∷ [])

abbrev throwing_lines : List (List ℕ)
throwing_lines = codes "call #19 this #18 (#21)" ∷ codes "get #21 @toPrimitive" ∷ codes "get #21 \"valueOf\"" ∷ codes "call #20 this #21 ()" ∷ codes "thr \"x\"" ∷ codes "thr \"x\"" ∷ codes "uncaught \"x\"" ∷ []

throwing_told : throwing_lines ≡ map (line_of long) (CallEvent (function_object 19) (values.Obj (plain_object 18)) (values.Obj (plain_object 21) ∷ []) ∷ GetEvent (plain_object 21) (keys.Sym 1) ∷ GetEvent (plain_object 21) (keys.Name (codes "valueOf")) ∷ CallEvent (function_object 20) (values.Obj (plain_object 21)) [] ∷ ThrowEvent (values.Str (codes "x")) ∷ ThrowEvent (values.Str (codes "x")) ∷ UncaughtEvent (values.Str (codes "x")) ∷ [])
unfolding line_of
throwing_told = simp (d18, d19, d20, d21) refl

-- with 14 units: five statements, two objects, seven lines
getter_throws : IsTrace long throwing 14 throwing_lines EndsUncaught
unfolding found_at is_fixed length_key realm_over intrinsics
getter_throws = worked _ _ 200 (refl, refl) throwing_told refl (refl, (refl, (refl, (refl, (refl, (refl, (refl, tt)))))))
