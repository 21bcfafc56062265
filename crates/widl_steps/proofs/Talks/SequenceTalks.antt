-- Worked conversations with everything built: sequences.
use Rattle.std.specs.Prelude.{[], ◌∷◌, ◌++◌, None, false, codes, refl}
use Rattle.widl_dialog.specs.Conversation.{Asks, Ends}
use Rattle.widl_text.specs.declared.key.Key.TheVariants as keys
use Rattle.widl_idl.specs.declared.argument.Optionality.TheVariants.{Required}
use Rattle.widl_idl.specs.declared.text_kind.TextKind.TheVariants as texts
use Rattle.widl_idl.specs.DefinitionTerms.{DefsTerm}
use Rattle.widl_idl.specs.Terms.{TypeTerm, UndefinedType, StringType, SequenceType}
use Rattle.widl_value.specs.declared.value.Value.{Value}
use Rattle.widl_value.specs.declared.value.Value.TheVariants as values
use Rattle.widl_value.specs.IdlTerms.{SequenceValue, StringValue, packed_values}
use Rattle.widl_overload.specs.sets.Index.{apart_at}
use Rattle.widl_trace.specs.declared.code.Code.TheVariants as code
use Rattle.widl_steps.specs.AskTerms.{GetAsk, CallAsk, ThrownAnswer}
use Rattle.widl_steps.specs.Laws.{Said}
use Rattle.widl_steps.specs.Tasks.{Task, Convert, Resolve, Gives, Picks, Throw, Rethrow}
use Rattle.widl_steps.proofs.Worked.{number, integer, plain, function, gets, gets_name, calls, call_throws, long, nothing_defined, argument, overload, with_overloads, f, Tells}

-- `sequence<long>` of object 1
abbrev pub of_numbers : Task
of_numbers = Convert (SequenceType long) (values.Obj (plain 1))

-- its method `@iterator` is function 2, which gives object 3, whose `next` is function 4
abbrev pub method : Said
method = gets (plain 1) (keys.Sym 0) (values.Obj (function 2)) ∷ []

abbrev pub iterator : Said
iterator = method ++ calls (function 2) (values.Obj (plain 1)) [] (values.Obj (plain 3)) ∷ []

abbrev pub begun : Said
begun = iterator ++ gets_name (plain 3) (codes "next") (values.Obj (function 4)) ∷ []

-- a turn that gives object 5, whose `value` is 7, and one that gives object 6, which is done
abbrev pub first_turn : Value → Said
first_turn v =
    calls (function 4) (values.Obj (plain 3)) [] (values.Obj (plain 5)) ∷ gets_name (plain 5) (codes "done") values.Undefined ∷ gets_name (plain 5) (codes "value") v ∷ []

abbrev pub last_turn : Said
last_turn = calls (function 4) (values.Obj (plain 3)) [] (values.Obj (plain 6)) ∷ gets_name (plain 6) (codes "done") (number 1) ∷ []

-- 1. One element, from the method to the end

method_is_read : Tells nothing_defined of_numbers [] (Asks (GetAsk (plain 1) (keys.Sym 0)))
method_is_read = (60, refl)

method_is_called : Tells nothing_defined of_numbers method (Asks (CallAsk (function 2) (values.Obj (plain 1)) []))
method_is_called = (60, (refl, tt, refl))

next_is_read : Tells nothing_defined of_numbers iterator (Asks (GetAsk (plain 3) (keys.Name (codes "next"))))
next_is_read = (60, (refl, tt, (refl, tt, refl)))

pub next_is_called : Tells nothing_defined of_numbers begun (Asks (CallAsk (function 4) (values.Obj (plain 3)) []))
next_is_called = (60, (refl, tt, (refl, tt, (refl, tt, refl))))

done_is_read : Tells nothing_defined of_numbers (begun ++ calls (function 4) (values.Obj (plain 3)) [] (values.Obj (plain 5)) ∷ []) (Asks (GetAsk (plain 5) (keys.Name (codes "done"))))
done_is_read = (60, (refl, tt, (refl, tt, (refl, tt, (refl, tt, refl)))))

one_element : Tells nothing_defined of_numbers (begun ++ first_turn (number 7) ++ last_turn) (Ends (Gives (SequenceValue (packed_values (integer 7 ∷ [])))))
one_element = (60, (refl, tt, (refl, tt, (refl, tt, (refl, tt, (refl, tt, (refl, tt, (refl, tt, (refl, tt, refl)))))))))

no_element : Tells nothing_defined of_numbers (begun ++ last_turn) (Ends (Gives (SequenceValue (packed_values []))))
no_element = (60, (refl, tt, (refl, tt, (refl, tt, (refl, tt, (refl, tt, refl))))))

-- 2. The `next` that was read is called in each turn, also where the first turn changed the property

next_is_called_again : Tells nothing_defined of_numbers (begun ++ first_turn (number 7)) (Asks (CallAsk (function 4) (values.Obj (plain 3)) []))
next_is_called_again = (60, (refl, tt, (refl, tt, (refl, tt, (refl, tt, (refl, tt, (refl, tt, refl)))))))

two_elements : Tells nothing_defined of_numbers (begun ++ first_turn (number 7) ++ first_turn (number 8) ++ last_turn) (Ends (Gives (SequenceValue (packed_values (integer 7 ∷ integer 8 ∷ [])))))
two_elements = (60, (refl, tt, (refl, tt, (refl, tt, (refl, tt, (refl, tt, (refl, tt, (refl, tt, (refl, tt, (refl, tt, (refl, tt, (refl, tt, refl))))))))))))

-- 3. Faults: nothing is asked after one

element_throws : Tells nothing_defined of_numbers (begun ++ first_turn (values.Sym 3)) (Ends (Throw code.Symbol))
element_throws = (60, (refl, tt, (refl, tt, (refl, tt, (refl, tt, (refl, tt, (refl, tt, refl)))))))

pub turn_throws : Tells nothing_defined of_numbers (begun ++ call_throws (function 4) (values.Obj (plain 3)) [] (number 9) ∷ []) (Ends (Rethrow (number 9)))
turn_throws = (60, (refl, tt, (refl, tt, (refl, tt, (refl, tt, refl)))))

next_throws : Tells nothing_defined of_numbers (iterator ++ (GetAsk (plain 3) (keys.Name (codes "next")), ThrownAnswer (number 9)) ∷ []) (Ends (Rethrow (number 9)))
next_throws = (60, (refl, tt, (refl, tt, (refl, tt, refl))))

-- 4. Each wrong kind of value

no_object : Tells nothing_defined (Convert (SequenceType long) (number 1)) [] (Ends (Throw code.NotObject))
no_object = (60, refl)

no_method : Tells nothing_defined of_numbers (gets (plain 1) (keys.Sym 0) values.Undefined ∷ []) (Ends (Throw code.NotIterable))
no_method = (60, (refl, tt, refl))

null_is_no_method : Tells nothing_defined of_numbers (gets (plain 1) (keys.Sym 0) values.Null ∷ []) (Ends (Throw code.NotIterable))
null_is_no_method = (60, (refl, tt, refl))

method_not_callable : Tells nothing_defined of_numbers (gets (plain 1) (keys.Sym 0) (values.Obj (plain 2)) ∷ []) (Ends (Throw code.NotCallable))
method_not_callable = (60, (refl, tt, refl))

no_iterator : Tells nothing_defined of_numbers (method ++ calls (function 2) (values.Obj (plain 1)) [] (number 3) ∷ []) (Ends (Throw code.Iterator))
no_iterator = (60, (refl, tt, (refl, tt, refl)))

next_not_callable : Tells nothing_defined of_numbers (iterator ++ gets_name (plain 3) (codes "next") (values.Obj (plain 4)) ∷ []) (Ends (Throw code.NotCallable))
next_not_callable = (60, (refl, tt, (refl, tt, (refl, tt, refl))))

no_next : Tells nothing_defined of_numbers (iterator ++ gets_name (plain 3) (codes "next") values.Undefined ∷ []) (Ends (Throw code.NotCallable))
no_next = (60, (refl, tt, (refl, tt, (refl, tt, refl))))

no_result : Tells nothing_defined of_numbers (begun ++ calls (function 4) (values.Obj (plain 3)) [] values.Undefined ∷ []) (Ends (Throw code.Result))
no_result = (60, (refl, tt, (refl, tt, (refl, tt, (refl, tt, refl)))))

-- 5. `f(DOMString s, long n); f(sequence<DOMString> q, long n);`: the method that the choice found is called, and not read again; then the second
-- argument follows

abbrev text : TypeTerm
text = StringType texts.Dom false

abbrev pub with_sequence : DefsTerm
with_sequence =
    with_overloads
    (overload UndefinedType (argument text Required None ∷ argument long Required None ∷ []) ∷ overload UndefinedType (argument (SequenceType text) Required None ∷ argument long Required None ∷ []) ∷ [])

abbrev pub of_object : Task
of_object = Resolve f (values.Obj (plain 1) ∷ number 5 ∷ [])

pub found_is_called : Tells with_sequence of_object method (Asks (CallAsk (function 2) (values.Obj (plain 1)) []))
unfolding apart_at
found_is_called = (60, (refl, tt, refl))

sequence_is_taken : Tells with_sequence of_object (begun ++ first_turn (values.Str (codes "a")) ++ last_turn) (Ends (Picks 1 (SequenceValue (packed_values (StringValue (codes "a") ∷ [])) ∷ integer 5 ∷ [])))
unfolding apart_at
sequence_is_taken = (60, (refl, tt, (refl, tt, (refl, tt, (refl, tt, (refl, tt, (refl, tt, (refl, tt, (refl, tt, refl)))))))))

carried_throws : Tells with_sequence of_object (method ++ calls (function 2) (values.Obj (plain 1)) [] (number 3) ∷ []) (Ends (Throw code.Iterator))
unfolding apart_at
carried_throws = (60, (refl, tt, (refl, tt, refl)))
