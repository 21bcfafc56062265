-- Worked conversations: objects to primitive values.
use Rattle.std.specs.Prelude.{[], ◌∷◌, codes, refl}
use Rattle.widl_dialog.specs.Conversation.{Asks, Ends}
use Rattle.widl_text.specs.declared.key.Key.TheVariants as keys
use Rattle.widl_value.specs.declared.object.Shape.TheVariants as shapes
use Rattle.widl_value.specs.declared.value.Value.{Value}
use Rattle.widl_value.specs.declared.value.Value.TheVariants as values
use Rattle.widl_trace.specs.declared.code.Code.TheVariants as code
use Rattle.widl_steps.specs.declared.hint.Hint.{Hint}
use Rattle.widl_steps.specs.declared.hint.Hint.TheVariants.{PrefersNumber, PrefersString}
use Rattle.widl_steps.specs.AskTerms.{AskTerm, AnswerTerm, GetAsk, CallAsk}
use Rattle.widl_steps.specs.Tasks.{Task, Primitive, Plain, Throw, Rethrow}
use Rattle.widl_steps.proofs.Worked.{number, plain, function, gets, gets_name, calls, call_throws, nothing_defined, Says}

abbrev it : Value
it = values.Obj (plain 1)

abbrev of_it : Hint → Task
of_it hint = Primitive hint it

-- it has no method `@toPrimitive`
abbrev no_method : AskTerm × AnswerTerm
no_method = gets (plain 1) (keys.Sym 1) values.Undefined

-- a value that is no object is itself
itself : Says nothing_defined (Primitive PrefersNumber (values.Sym 3)) [] (Ends (Plain (values.Sym 3)))
itself = (5, refl)

-- with both methods, the hint decides which comes first
by_value_of : Says nothing_defined (of_it PrefersNumber) (no_method ∷ gets_name (plain 1) (codes "valueOf") (values.Obj (function 2)) ∷ calls (function 2) it [] (number 3) ∷ []) (Ends (Plain (number 3)))
by_value_of = (20, (refl, tt, (refl, tt, (refl, tt, refl))))

by_to_string : Says nothing_defined (of_it PrefersString) (no_method ∷ gets_name (plain 1) (codes "toString") (values.Obj (function 2)) ∷ calls (function 2) it [] (values.Str (codes "it")) ∷ []) (Ends (Plain (values.Str (codes "it"))))
by_to_string = (20, (refl, tt, (refl, tt, (refl, tt, refl))))

-- where the first gives an object, the second is asked; where that does too, there is no primitive value
gives_itself : Says nothing_defined (of_it PrefersNumber) (no_method ∷ gets_name (plain 1) (codes "valueOf") (values.Obj (function 2)) ∷ calls (function 2) it [] it ∷ []) (Asks (GetAsk (plain 1) (keys.Name (codes "toString"))))
gives_itself = (20, (refl, tt, (refl, tt, (refl, tt, refl))))

no_primitive_value : Says nothing_defined (of_it PrefersString) (no_method ∷ gets_name (plain 1) (codes "toString") values.Undefined ∷ gets_name (plain 1) (codes "valueOf") (values.Obj (function 2)) ∷ calls (function 2) it [] it ∷ []) (Ends (Throw code.Primitive))
no_primitive_value = (20, (refl, tt, (refl, tt, (refl, tt, (refl, tt, refl)))))

no_number : Says nothing_defined (of_it PrefersNumber) (no_method ∷ gets_name (plain 1) (codes "valueOf") (values.Obj (function 2)) ∷ calls (function 2) it [] it ∷ gets_name (plain 1) (codes "toString") (values.Obj (function 3)) ∷ calls (function 3) it [] (values.Obj (plain 4)) ∷ []) (Ends (Throw code.Primitive))
no_number = (20, (refl, tt, (refl, tt, (refl, tt, (refl, tt, (refl, tt, refl))))))

-- what can't be called is passed over, without a fault; a platform object can't be
not_callable : Says nothing_defined (of_it PrefersNumber) (no_method ∷ gets_name (plain 1) (codes "valueOf") (values.Obj (plain 2)) ∷ []) (Asks (GetAsk (plain 1) (keys.Name (codes "toString"))))
not_callable = (20, (refl, tt, (refl, tt, refl)))

platform_object : Says nothing_defined (of_it PrefersNumber) (no_method ∷ gets_name (plain 1) (codes "valueOf") (values.Obj (record { id = 2; shape = shapes.Platform 0 })) ∷ []) (Asks (GetAsk (plain 1) (keys.Name (codes "toString"))))
platform_object = (20, (refl, tt, (refl, tt, refl)))

-- what a method throws is thrown on
throws : Says nothing_defined (of_it PrefersNumber) (no_method ∷ gets_name (plain 1) (codes "valueOf") (values.Obj (function 2)) ∷ call_throws (function 2) it [] (number 7) ∷ []) (Ends (Rethrow (number 7)))
throws = (20, (refl, tt, (refl, tt, (refl, tt, refl))))

-- `@toPrimitive` is called with the hint's text, and may not give an object
abbrev has_method : AskTerm × AnswerTerm
has_method = gets (plain 1) (keys.Sym 1) (values.Obj (function 2))

by_method : Says nothing_defined (of_it PrefersNumber) (has_method ∷ calls (function 2) it (values.Str (codes "number") ∷ []) values.Null ∷ []) (Ends (Plain values.Null))
by_method = (20, (refl, tt, (refl, tt, refl)))

with_hint : Says nothing_defined (of_it PrefersString) (has_method ∷ []) (Asks (CallAsk (function 2) it (values.Str (codes "string") ∷ [])))
with_hint = (20, (refl, tt, refl))

method_gives_object : Says nothing_defined (of_it PrefersNumber) (has_method ∷ calls (function 2) it (values.Str (codes "number") ∷ []) it ∷ []) (Ends (Throw code.Primitive))
method_gives_object = (20, (refl, tt, (refl, tt, refl)))

-- null is no method, and another value that can't be called is a fault
null_is_none : Says nothing_defined (of_it PrefersNumber) (gets (plain 1) (keys.Sym 1) values.Null ∷ []) (Asks (GetAsk (plain 1) (keys.Name (codes "valueOf"))))
null_is_none = (20, (refl, tt, refl))

method_not_callable : Says nothing_defined (of_it PrefersNumber) (gets (plain 1) (keys.Sym 1) (number 1) ∷ []) (Ends (Throw code.NotCallable))
method_not_callable = (20, (refl, tt, refl))
