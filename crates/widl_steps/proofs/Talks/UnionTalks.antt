-- Worked conversations with everything built: nullable types and unions.
use Rattle.std.specs.Prelude.{[], ◌∷◌, ◌++◌, None, false, true, codes, refl}
use Rattle.widl_dialog.specs.Conversation.{Asks, Ends}
use Rattle.widl_text.specs.declared.key.Key.TheVariants as keys
use Rattle.widl_idl.specs.declared.argument.Optionality.TheVariants.{Required}
use Rattle.widl_idl.specs.declared.text_kind.TextKind.TheVariants as texts
use Rattle.widl_idl.specs.DefinitionTerms.{DefsTerm}
use Rattle.widl_idl.specs.Terms.{TypeTerm, packed, UndefinedType, BooleanType, StringType, CallbackFunctionType, DictionaryType, ObjectType, SequenceType, RecordType, NullableType, UnionType}
use Rattle.widl_overload.specs.sets.Index.{apart_at}
use Rattle.widl_value.specs.Rounding.{near_of, step_of}
use Rattle.widl_value.specs.declared.object.ObjRef.{ObjRef}
use Rattle.widl_value.specs.declared.object.Shape.TheVariants as shapes
use Rattle.widl_value.specs.declared.value.Value.{Value}
use Rattle.widl_value.specs.declared.value.Value.TheVariants as values
use Rattle.widl_value.specs.IdlTerms.{NullValue, ObjectValue, StringValue, SequenceValue, DictionaryValue, packed_values, packed_members}
use Rattle.widl_scalar.specs.WhiteSpace.{trimmed, is_white}
use Rattle.widl_scalar.specs.NumeralWords.{exact_of, read_of, read_radix, read_unsigned}
use Rattle.widl_trace.specs.declared.code.Code.TheVariants as code
use Rattle.widl_steps.specs.AskTerms.{GetAsk, CallAsk, OwnKeysAsk}
use Rattle.widl_steps.specs.Laws.{Said}
use Rattle.widl_steps.specs.Tasks.{Convert, Resolve, Gives, Picks, Throw, Profile}
use Rattle.widl_steps.proofs.Worked.{number, integer, plain, function, gets, gets_name, long, nothing_defined, argument, overload, with_overloads, dictionary, optional_member, f, Tells}
use Rattle.widl_steps.proofs.Talks.SequenceTalks.{method, begun, first_turn, last_turn}

abbrev text : TypeTerm
text = StringType texts.Dom false

abbrev it : Value
it = values.Obj (plain 1)

-- the object of a number that is a platform object of interface 0
abbrev platform : ObjRef
platform = record { id = 1; shape = shapes.Platform 0 }

-- no method `@iterator` is found
abbrev no_method : Said
no_method = gets (plain 1) (keys.Sym 0) values.Undefined ∷ []

-- 1. Nullable types

undefined_is_null : Tells nothing_defined (Convert (NullableType long) values.Undefined) [] (Ends (Gives NullValue))
undefined_is_null = (60, refl)

null_is_null : Tells nothing_defined (Convert (NullableType (SequenceType long)) values.Null) [] (Ends (Gives NullValue))
null_is_null = (60, refl)

inner_type : Tells nothing_defined (Convert (NullableType long) (number 7)) [] (Ends (Gives (integer 7)))
inner_type = (60, refl)

inner_sequence : Tells nothing_defined (Convert (NullableType (SequenceType long)) it) (begun ++ first_turn (number 7) ++ last_turn) (Ends (Gives (SequenceValue (packed_values (integer 7 ∷ [])))))
inner_sequence = (60, (refl, tt, (refl, tt, (refl, tt, (refl, tt, (refl, tt, (refl, tt, (refl, tt, (refl, tt, refl)))))))))

-- 2. `(long or sequence<DOMString>)` of each class

abbrev pub number_or_sequence : TypeTerm
number_or_sequence = UnionType (packed (long ∷ SequenceType text ∷ []))

undefined_is_number : Tells nothing_defined (Convert number_or_sequence values.Undefined) [] (Ends (Gives (integer 0)))
undefined_is_number = (60, refl)

null_is_number : Tells nothing_defined (Convert number_or_sequence values.Null) [] (Ends (Gives (integer 0)))
null_is_number = (60, refl)

truth_is_number : Tells nothing_defined (Convert number_or_sequence (values.Bool true)) [] (Ends (Gives (integer 1)))
truth_is_number = (60, refl)

number_is_number : Tells nothing_defined (Convert number_or_sequence (number 5)) [] (Ends (Gives (integer 5)))
number_is_number = (60, refl)

text_is_number : Tells nothing_defined (Convert number_or_sequence (values.Str (codes "7"))) [] (Ends (Gives (integer 7)))
unfolding trimmed is_white read_of read_radix read_unsigned exact_of near_of step_of lib.Count.count_leading_zeros
text_is_number = (60, refl)

symbol_has_no_number : Tells nothing_defined (Convert number_or_sequence (values.Sym 3)) [] (Ends (Throw code.Symbol))
symbol_has_no_number = (60, refl)

object_is_asked : Tells nothing_defined (Convert number_or_sequence it) [] (Asks (GetAsk (plain 1) (keys.Sym 0)))
object_is_asked = (60, refl)

object_without_method : Tells nothing_defined (Convert number_or_sequence it) no_method (Asks (GetAsk (plain 1) (keys.Sym 1)))
object_without_method = (60, (refl, tt, refl))

pub object_with_method : Tells nothing_defined (Convert number_or_sequence it) method (Asks (CallAsk (function 2) it []))
object_with_method = (60, (refl, tt, refl))

sequence_of_object : Tells nothing_defined (Convert number_or_sequence it) (begun ++ first_turn (values.Str (codes "a")) ++ last_turn) (Ends (Gives (SequenceValue (packed_values (StringValue (codes "a") ∷ [])))))
sequence_of_object = (60, (refl, tt, (refl, tt, (refl, tt, (refl, tt, (refl, tt, (refl, tt, (refl, tt, (refl, tt, refl)))))))))

method_not_callable : Tells nothing_defined (Convert number_or_sequence it) (gets (plain 1) (keys.Sym 0) (number 2) ∷ []) (Ends (Throw code.NotCallable))
method_not_callable = (60, (refl, tt, refl))

function_is_asked : Tells nothing_defined (Convert number_or_sequence (values.Obj (function 1))) [] (Asks (GetAsk (function 1) (keys.Sym 0)))
function_is_asked = (60, refl)

platform_object_is_asked : Tells nothing_defined (Convert number_or_sequence (values.Obj platform)) [] (Asks (GetAsk platform (keys.Sym 0)))
platform_object_is_asked = (60, refl)

-- 3. Other unions: null where a nullable type is included; `(long? or sequence<DOMString>)`, `(boolean or (DOMString? or D))`

null_of_union : Tells nothing_defined (Convert (UnionType (packed (NullableType long ∷ SequenceType text ∷ []))) values.Undefined) [] (Ends (Gives NullValue))
null_of_union = (60, refl)

null_of_inner_union : Tells nothing_defined (Convert (UnionType (packed (BooleanType ∷ UnionType (packed (NullableType text ∷ DictionaryType 0 ∷ [])) ∷ []))) values.Null) [] (Ends (Gives NullValue))
null_of_inner_union = (60, refl)

inner_member : Tells nothing_defined (Convert (UnionType (packed (BooleanType ∷ UnionType (packed (NullableType text ∷ DictionaryType 0 ∷ [])) ∷ []))) (values.Str (codes "a"))) [] (Ends (Gives (StringValue (codes "a"))))
inner_member = (60, refl)

-- `(sequence<DOMString> or record<DOMString, DOMString>)`
none_fits : Tells nothing_defined (Convert (UnionType (packed (SequenceType text ∷ RecordType texts.Dom text ∷ []))) (number 1)) [] (Ends (Throw code.Union))
none_fits = (60, refl)

record_without_method : Tells nothing_defined (Convert (UnionType (packed (SequenceType text ∷ RecordType texts.Dom text ∷ []))) it) no_method (Asks (OwnKeysAsk (plain 1)))
record_without_method = (60, (refl, tt, refl))

object_is_object : Tells nothing_defined (Convert (UnionType (packed (text ∷ ObjectType ∷ []))) it) [] (Ends (Gives (ObjectValue (plain 1))))
object_is_object = (60, refl)

-- 4. `dictionary D { long x; };`, `f(boolean b); f((sequence<long> or D) u);`: an object without a method was asked for one by the choice, and the
-- union asks for it once more
abbrev pub probed_before : DefsTerm
probed_before =
    record (with_overloads (overload UndefinedType (argument BooleanType Required None ∷ []) ∷ overload UndefinedType (argument (UnionType (packed (SequenceType long ∷ DictionaryType 0 ∷ []))) Required None ∷ []) ∷ [])) {
      dicts = dictionary (codes "D") None (optional_member (codes "x") long None ∷ []) ∷ [];
    }

choice_asks : Tells probed_before (Resolve f (it ∷ [])) [] (Asks (GetAsk (plain 1) (keys.Sym 0)))
unfolding apart_at
choice_asks = (60, refl)

union_asks_again : Tells probed_before (Resolve f (it ∷ [])) no_method (Asks (GetAsk (plain 1) (keys.Sym 0)))
unfolding apart_at
union_asks_again = (60, (refl, tt, refl))

then_members : Tells probed_before (Resolve f (it ∷ [])) (no_method ++ no_method ++ gets_name (plain 1) (codes "x") (number 5) ∷ []) (Ends (Picks 1 (DictionaryValue 0 (packed_members ((0, 0, integer 5) ∷ [])) ∷ [])))
unfolding apart_at
then_members = (60, (refl, tt, (refl, tt, (refl, tt, refl))))

-- a method that the choice found goes into the sequence of the union, and isn't asked for again
pub found_by_choice : Tells probed_before (Resolve f (it ∷ [])) method (Asks (CallAsk (function 2) it []))
unfolding apart_at
found_by_choice = (60, (refl, tt, refl))

sequence_by_choice : Tells probed_before (Resolve f (it ∷ [])) (begun ++ first_turn (number 7) ++ last_turn) (Ends (Picks 1 (SequenceValue (packed_values (integer 7 ∷ [])) ∷ [])))
unfolding apart_at
sequence_by_choice = (60, (refl, tt, (refl, tt, (refl, tt, (refl, tt, (refl, tt, (refl, tt, (refl, tt, (refl, tt, refl)))))))))

-- `f(boolean b); f(sequence<long>? q);`: and into that of a nullable type
abbrev probed_nullable : DefsTerm
probed_nullable = with_overloads (overload UndefinedType (argument BooleanType Required None ∷ []) ∷ overload UndefinedType (argument (NullableType (SequenceType long)) Required None ∷ []) ∷ [])

sequence_of_nullable : Tells probed_nullable (Resolve f (it ∷ [])) (begun ++ first_turn (number 7) ++ last_turn) (Ends (Picks 1 (SequenceValue (packed_values (integer 7 ∷ [])) ∷ [])))
unfolding apart_at
sequence_of_nullable = (60, (refl, tt, (refl, tt, (refl, tt, (refl, tt, (refl, tt, (refl, tt, (refl, tt, (refl, tt, refl)))))))))

-- 5. `(DOMString or F)` with a callback function F: a function picks it, and that conversion has no steps yet
function_is_picked : Tells nothing_defined (Convert (UnionType (packed (text ∷ CallbackFunctionType 0 ∷ []))) (values.Obj (function 1))) [] (Ends (Profile 99))
function_is_picked = (60, refl)
