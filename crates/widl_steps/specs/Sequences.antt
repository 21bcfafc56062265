-- Values of the script to sequences.
-- Source: Web IDL, "Sequences" (JavaScript binding), "creating a sequence from an iterable"; ECMA-262, GetMethod, GetIteratorFromMethod,
-- IteratorStep, IteratorValue.
use Rattle.std.specs.Prelude.{ℕ, if◌then◌else◌, List, [], ◌∷◌, ◌++◌, Option, None, Some, codes}
use Rattle.std.specs.Option.{option_or}
use Rattle.widl_dialog.specs.Dialog.{End, Say, Steps}
use Rattle.widl_text.specs.declared.key.Key.TheVariants as keys
use Rattle.widl_idl.specs.Flattened.{flattened_member}
use Rattle.widl_idl.specs.Terms.{TypeTerm, AnyType, SequenceType}
use Rattle.widl_value.specs.declared.object.ObjRef.{ObjRef}
use Rattle.widl_value.specs.declared.value.Value.{Value}
use Rattle.widl_value.specs.declared.value.Value.TheVariants as values
use Rattle.widl_value.specs.IdlTerms.{IdlTerm, SequenceValue, packed_values}
use Rattle.widl_scalar.specs.Primitives.{truth_of}
use Rattle.widl_trace.specs.declared.code.Code.TheVariants as code
use Rattle.widl_steps.specs.AskTerms.{GetAsk, CallAsk}
use Rattle.widl_steps.specs.Built.{Built}
use Rattle.widl_steps.specs.Tasks.{Convert, SequenceFrom, Turns, Talk, TaskEnd}
use Rattle.widl_steps.specs.Words.{gives, fails, not_built, normal, object, callable_or, method_or, given}

-- the symbol `@iterator`
abbrev pub iterator_symbol : ℕ
iterator_symbol = 0

-- 1. The sequence type in a type, looked for through nullable types and unions

-- the type of its elements
abbrev pub element_of : TypeTerm → Option TypeTerm
element_of (SequenceType t) = Some t
element_of _ = None

abbrev pub element_among : List TypeTerm → Option TypeTerm
element_among [] = None
element_among (t ∷ types) = option_or (element_of t) (element_among types)

abbrev pub element_within : TypeTerm → Option TypeTerm
element_within t = element_among (flattened_member t)

-- 2. The turns of an iterator: each calls the method `next` that was read once. What it gives is asked whether it is done, and for its value
-- only where it isn't. Nothing is asked of the iterator when a turn or an element throws.

abbrev pub element_given : TypeTerm → ObjRef → ObjRef → List IdlTerm → TaskEnd → Talk
element_given t iterator next made = given (λ w. Steps (Turns t iterator next (made ++ w ∷ [])) End)

abbrev pub element : TypeTerm → ObjRef → ObjRef → List IdlTerm → Value → Talk
element t iterator next made v = Steps (Convert t v) (element_given t iterator next made)

abbrev pub told_done : TypeTerm → ObjRef → ObjRef → List IdlTerm → ObjRef → Value → Talk
told_done t iterator next made turn is_done =
    if truth_of is_done then gives (SequenceValue (packed_values made)) else Say (GetAsk turn (keys.Name (codes "value"))) (normal (element t iterator next made))

abbrev pub turn_given : TypeTerm → ObjRef → ObjRef → List IdlTerm → Value → Talk
turn_given t iterator next made = object code.Result (λ turn. Say (GetAsk turn (keys.Name (codes "done"))) (normal (told_done t iterator next made turn)))

abbrev pub turns : TypeTerm → ObjRef → ObjRef → List IdlTerm → Talk
turns t iterator next made = Say (CallAsk next (values.Obj iterator) []) (normal (turn_given t iterator next made))

-- 3. The sequence from a method that was found

abbrev pub with_next : TypeTerm → ObjRef → Value → Talk
with_next t iterator = callable_or (fails code.NotCallable) (λ next. Steps (Turns t iterator next []) End)

abbrev pub with_iterator : TypeTerm → Value → Talk
with_iterator t = object code.Iterator (λ iterator. Say (GetAsk iterator (keys.Name (codes "next"))) (normal (with_next t iterator)))

abbrev pub sequence_from : TypeTerm → ObjRef → ObjRef → Talk
sequence_from t o method = Say (CallAsk method (values.Obj o) []) (normal (with_iterator t))

-- what the choice of an overload or of a union's member goes on with where it found a method: sequences are built whatever their elements are
abbrev pub if_sequences : Built → Talk → Talk
if_sequences built d = if built.to_type (SequenceType AnyType) then d else not_built

-- 4. The sequence of an object

abbrev pub found_iterator_method : TypeTerm → ObjRef → Value → Talk
found_iterator_method t o = method_or (fails code.NotIterable) (λ method. Steps (SequenceFrom t o method) End)

abbrev pub to_sequence : TypeTerm → Value → Talk
to_sequence t = object code.NotObject (λ o. Say (GetAsk o (keys.Sym iterator_symbol)) (normal (found_iterator_method t o)))
