-- Worked conversations: the choice of an overload.
use Rattle.std.specs.Prelude.{List, [], ◌∷◌, None, Some, true, false, codes, pos, refl}
use Rattle.widl_dialog.specs.Conversation.{Asks, Ends}
use Rattle.widl_text.specs.declared.key.Key.TheVariants as keys
use Rattle.widl_idl.specs.declared.argument.Optionality.TheVariants.{Required, Optional, Variadic}
use Rattle.widl_idl.specs.declared.int_kind.IntKind.TheVariants.{Long}
use Rattle.widl_idl.specs.declared.int_kind.Mode.TheVariants.{Wrap}
use Rattle.widl_idl.specs.declared.literal.Literal.TheVariants as literals
use Rattle.widl_idl.specs.declared.text_kind.TextKind.TheVariants as texts
use Rattle.widl_idl.specs.DefinitionTerms.{DefsTerm}
use Rattle.widl_idl.specs.Terms.{TypeTerm, AnyType, UndefinedType, BooleanType, IntegerType, StringType, CallbackFunctionType, ObjectType, SequenceType, RecordType}
use Rattle.widl_overload.specs.sets.Index.{apart_at}
use Rattle.widl_value.specs.declared.value.Value.{Value}
use Rattle.widl_value.specs.declared.value.Value.TheVariants as values
use Rattle.widl_value.specs.IdlTerms.{MissingValue, StringValue, ObjectValue}
use Rattle.widl_value.specs.Rounding.{near_of, step_of}
use Rattle.widl_scalar.specs.WhiteSpace.{trimmed, is_white}
use Rattle.widl_scalar.specs.NumeralWords.{exact_of, read_of, read_unsigned}
use Rattle.widl_trace.specs.declared.code.Code.TheVariants as code
use Rattle.widl_steps.specs.AskTerms.{GetAsk, CallAsk}
use Rattle.widl_steps.specs.Tasks.{Resolve, TaskEnd, Picks, Throw}
use Rattle.widl_steps.proofs.Worked.{number, integer, plain, function, gets, calls, argument, overload, with_overloads, f, nothing_defined, Says}

abbrev pub long : TypeTerm
long = IntegerType Long Wrap

abbrev pub text : TypeTerm
text = StringType texts.Dom false

-- 1. `f(long a, optional long b = 5, long... c)`

abbrev pub defaulted : DefsTerm
defaulted = with_overloads (overload UndefinedType (argument long Required None ∷ argument long Optional (Some (literals.Int (pos 5))) ∷ argument long Variadic None ∷ []) ∷ [])

abbrev Defaulted : List Value → TaskEnd → Type 0
Defaulted args end = Says defaulted (Resolve f args) [] (Ends end)

one_argument : Defaulted (number 1 ∷ []) (Picks 0 (integer 1 ∷ integer 5 ∷ []))
one_argument = (30, refl)

undefined_second : Defaulted (number 1 ∷ values.Undefined ∷ []) (Picks 0 (integer 1 ∷ integer 5 ∷ []))
undefined_second = (30, refl)

undefined_third : Defaulted (number 1 ∷ values.Undefined ∷ values.Undefined ∷ []) (Picks 0 (integer 1 ∷ integer 5 ∷ integer 0 ∷ []))
undefined_third = (30, refl)

-- the variadic argument takes the rest; where one of them is undefined it is converted
four_arguments : Defaulted (number 1 ∷ number 2 ∷ number 3 ∷ values.Undefined ∷ []) (Picks 0 (integer 1 ∷ integer 2 ∷ integer 3 ∷ integer 0 ∷ []))
four_arguments = (40, refl)

too_few : Defaulted [] (Throw code.NoOverload)
too_few = (30, refl)

-- an optional argument without a default value is missing; arguments beyond the declared ones are dropped
abbrev pub optional : DefsTerm
optional = with_overloads (overload UndefinedType (argument long Required None ∷ argument text Optional None ∷ []) ∷ [])

missing_second : Says optional (Resolve f (number 1 ∷ [])) [] (Ends (Picks 0 (integer 1 ∷ MissingValue ∷ [])))
missing_second = (30, refl)

undefined_is_missing : Says optional (Resolve f (number 1 ∷ values.Undefined ∷ [])) [] (Ends (Picks 0 (integer 1 ∷ MissingValue ∷ [])))
undefined_is_missing = (30, refl)

third_is_dropped : Says optional (Resolve f (number 1 ∷ values.Null ∷ values.Sym 3 ∷ [])) [] (Ends (Picks 0 (integer 1 ∷ StringValue (codes "null") ∷ [])))
third_is_dropped = (30, refl)

-- `f(optional long a = 7, optional DOMString b)`: each default in its place
abbrev all_optional : DefsTerm
all_optional = with_overloads (overload UndefinedType (argument long Optional (Some (literals.Int (pos 7))) ∷ argument text Optional None ∷ []) ∷ [])

no_arguments : Says all_optional (Resolve f []) [] (Ends (Picks 0 (integer 7 ∷ MissingValue ∷ [])))
no_arguments = (30, refl)

-- `f(DOMString s, long... c)`: the last type is repeated, and a value of that place is never left out
abbrev text_then_numbers : DefsTerm
text_then_numbers = with_overloads (overload UndefinedType (argument text Required None ∷ argument long Variadic None ∷ []) ∷ [])

numbers_after_text : Says text_then_numbers (Resolve f (values.Str (codes "x") ∷ number 1 ∷ values.Undefined ∷ [])) [] (Ends (Picks 0 (StringValue (codes "x") ∷ integer 1 ∷ integer 0 ∷ [])))
numbers_after_text = (30, refl)

-- a callee that the list hasn't keeps no entry
no_such_callee : Says nothing_defined (Resolve f []) [] (Ends (Throw code.NoOverload))
no_such_callee = (30, refl)

-- 2. `f(long... a); f(DOMString s, long b);`

abbrev pub two : DefsTerm
two = with_overloads (overload UndefinedType (argument long Variadic None ∷ []) ∷ overload UndefinedType (argument text Required None ∷ argument long Required None ∷ []) ∷ [])

abbrev Two : List Value → TaskEnd → Type 0
Two args end = Says two (Resolve f args) [] (Ends end)

no_argument : Two [] (Picks 0 [])
unfolding apart_at
no_argument = (30, refl)

a_text : Two (values.Str (codes "7") ∷ []) (Picks 0 (integer 7 ∷ []))
unfolding apart_at trimmed is_white read_of read_unsigned exact_of near_of step_of lib.Count.count_leading_zeros
a_text = (30, refl)

text_first : Two (values.Str (codes "x") ∷ number 1 ∷ []) (Picks 1 (StringValue (codes "x") ∷ integer 1 ∷ []))
unfolding apart_at
text_first = (30, refl)

undefined_first : Two (values.Undefined ∷ number 1 ∷ []) (Picks 1 (StringValue (codes "undefined") ∷ integer 1 ∷ []))
unfolding apart_at
undefined_first = (30, refl)

true_first : Two (values.Bool true ∷ number 1 ∷ []) (Picks 1 (StringValue (codes "true") ∷ integer 1 ∷ []))
unfolding apart_at
true_first = (30, refl)

number_first : Two (number 4 ∷ number 1 ∷ []) (Picks 0 (integer 4 ∷ integer 1 ∷ []))
unfolding apart_at
number_first = (30, refl)

six_arguments : Two (values.Str (codes "x") ∷ number 1 ∷ number 2 ∷ number 3 ∷ number 4 ∷ number 5 ∷ []) (Picks 0 (integer 0 ∷ integer 1 ∷ integer 2 ∷ integer 3 ∷ integer 4 ∷ integer 5 ∷ []))
unfolding apart_at trimmed is_white read_of read_unsigned exact_of
six_arguments = (60, refl)

-- 3. `f(long a, DOMString b); f(long a, object b);`: the arguments before the place that tells the overloads apart are converted first

abbrev pub second_tells : DefsTerm
second_tells = with_overloads (overload UndefinedType (argument long Required None ∷ argument text Required None ∷ []) ∷ overload UndefinedType (argument long Required None ∷ argument ObjectType Required None ∷ []) ∷ [])

abbrev pub both : List Value
both = values.Obj (plain 1) ∷ values.Obj (plain 2) ∷ []

pub first_is_asked : Says second_tells (Resolve f both) [] (Asks (GetAsk (plain 1) (keys.Sym 1)))
unfolding apart_at
first_is_asked = (30, refl)

second_is_object : Says second_tells (Resolve f (number 1 ∷ values.Obj (plain 2) ∷ [])) [] (Ends (Picks 1 (integer 1 ∷ ObjectValue (plain 2) ∷ [])))
unfolding apart_at
second_is_object = (30, refl)

second_is_text : Says second_tells (Resolve f (number 1 ∷ values.Bool true ∷ [])) [] (Ends (Picks 0 (integer 1 ∷ StringValue (codes "true") ∷ [])))
unfolding apart_at
second_is_text = (30, refl)

-- what the first of them throws ends the choice
first_is_symbol : Says second_tells (Resolve f (values.Sym 3 ∷ values.Obj (plain 2) ∷ [])) [] (Ends (Throw code.Symbol))
unfolding apart_at
first_is_symbol = (30, refl)

-- `f(long a, DOMString b); f(long a, sequence<DOMString> b);`: the second is asked for a method `@iterator` only then
abbrev pub sequence_tells : DefsTerm
sequence_tells = with_overloads (overload UndefinedType (argument long Required None ∷ argument text Required None ∷ []) ∷ overload UndefinedType (argument long Required None ∷ argument (SequenceType text) Required None ∷ []) ∷ [])

pub first_is_converted : Says sequence_tells (Resolve f both) [] (Asks (GetAsk (plain 1) (keys.Sym 1)))
unfolding apart_at
first_is_converted = (30, refl)

then_second_is_asked : Says sequence_tells (Resolve f both) (gets (plain 1) (keys.Sym 1) (values.Obj (function 3)) ∷ calls (function 3) (values.Obj (plain 1)) (values.Str (codes "number") ∷ []) values.Null ∷ []) (Asks (GetAsk (plain 2) (keys.Sym 0)))
unfolding apart_at
then_second_is_asked = (40, (refl, tt, (refl, tt, refl)))

-- `f(long a, long b); f(DOMString a, DOMString b);`: each place would tell them apart, and the lowest does
abbrev pub both_tell : DefsTerm
both_tell = with_overloads (overload UndefinedType (argument long Required None ∷ argument long Required None ∷ []) ∷ overload UndefinedType (argument text Required None ∷ argument text Required None ∷ []) ∷ [])

first_tells : Says both_tell (Resolve f (values.Str (codes "x") ∷ values.Bool true ∷ [])) [] (Ends (Picks 1 (StringValue (codes "x") ∷ StringValue (codes "true") ∷ [])))
unfolding apart_at
first_tells = (30, refl)

-- 4. `f(object a); f(boolean a, any b);` has one entry for each length, so no value is looked at

abbrev by_length_alone : DefsTerm
by_length_alone = with_overloads (overload UndefinedType (argument ObjectType Required None ∷ []) ∷ overload UndefinedType (argument BooleanType Required None ∷ argument AnyType Required None ∷ []) ∷ [])

by_length : Says by_length_alone (Resolve f (number 1 ∷ [])) [] (Ends (Throw code.NotObject))
unfolding apart_at
by_length = (30, refl)

-- `f(object a); f(long a, DOMString b, optional long c = 5);`: the default value is that of the overload that is left
abbrev second_has_default : DefsTerm
second_has_default = with_overloads (overload UndefinedType (argument ObjectType Required None ∷ []) ∷ overload UndefinedType (argument long Required None ∷ argument text Required None ∷ argument long Optional (Some (literals.Int (pos 5))) ∷ []) ∷ [])

default_of_second : Says second_has_default (Resolve f (number 1 ∷ values.Null ∷ [])) [] (Ends (Picks 1 (integer 1 ∷ StringValue (codes "null") ∷ integer 5 ∷ [])))
unfolding apart_at
default_of_second = (30, refl)

undefined_of_second : Says second_has_default (Resolve f (number 1 ∷ values.Null ∷ values.Undefined ∷ [])) [] (Ends (Picks 1 (integer 1 ∷ StringValue (codes "null") ∷ integer 5 ∷ [])))
unfolding apart_at
undefined_of_second = (30, refl)

-- `f(DOMString s); f(optional long a = 5);`: undefined picks the overload where it may be left out, and gives its default there
abbrev one_optional : DefsTerm
one_optional = with_overloads (overload UndefinedType (argument text Required None ∷ []) ∷ overload UndefinedType (argument long Optional (Some (literals.Int (pos 5))) ∷ []) ∷ [])

undefined_is_left_out : Says one_optional (Resolve f (values.Undefined ∷ [])) [] (Ends (Picks 1 (integer 5 ∷ [])))
unfolding apart_at
undefined_is_left_out = (30, refl)

-- 5. `f(DOMString s); f(sequence<DOMString> q);`: an object is asked for a method `@iterator`; with none it is a text

abbrev pub with_sequence : DefsTerm
with_sequence = with_overloads (overload UndefinedType (argument text Required None ∷ []) ∷ overload UndefinedType (argument (SequenceType text) Required None ∷ []) ∷ [])

asks_for_method : Says with_sequence (Resolve f (values.Obj (plain 1) ∷ [])) [] (Asks (GetAsk (plain 1) (keys.Sym 0)))
unfolding apart_at
asks_for_method = (30, refl)

pub without_method : Says with_sequence (Resolve f (values.Obj (plain 1) ∷ [])) (gets (plain 1) (keys.Sym 0) values.Undefined ∷ []) (Asks (GetAsk (plain 1) (keys.Sym 1)))
unfolding apart_at
without_method = (30, (refl, tt, refl))

text_is_not_asked : Says with_sequence (Resolve f (values.Str (codes "x") ∷ [])) [] (Ends (Picks 0 (StringValue (codes "x") ∷ [])))
unfolding apart_at
text_is_not_asked = (30, refl)

method_not_callable : Says with_sequence (Resolve f (values.Obj (plain 1) ∷ [])) (gets (plain 1) (keys.Sym 0) (number 1) ∷ []) (Ends (Throw code.NotCallable))
unfolding apart_at
method_not_callable = (30, (refl, tt, refl))

-- the method that was found is called, and not read again
with_method : Says with_sequence (Resolve f (values.Obj (plain 1) ∷ [])) (gets (plain 1) (keys.Sym 0) (values.Obj (function 2)) ∷ []) (Asks (CallAsk (function 2) (values.Obj (plain 1)) []))
unfolding apart_at
with_method = (30, (refl, tt, refl))

-- 6. `f(sequence<DOMString> q); f(record<DOMString, DOMString> r);`: a number fits neither

abbrev none_fits : DefsTerm
none_fits = with_overloads (overload UndefinedType (argument (SequenceType text) Required None ∷ []) ∷ overload UndefinedType (argument (RecordType texts.Dom text) Required None ∷ []) ∷ [])

number_fits_none : Says none_fits (Resolve f (number 1 ∷ [])) [] (Ends (Throw code.NoMatch))
unfolding apart_at
number_fits_none = (30, refl)

-- `f(sequence<DOMString> q); f(F g);` with a callback function F: neither does an object without a method `@iterator`
abbrev sequence_or_function : DefsTerm
sequence_or_function = with_overloads (overload UndefinedType (argument (SequenceType text) Required None ∷ []) ∷ overload UndefinedType (argument (CallbackFunctionType 0) Required None ∷ []) ∷ [])

object_fits_none : Says sequence_or_function (Resolve f (values.Obj (plain 1) ∷ [])) (gets (plain 1) (keys.Sym 0) values.Undefined ∷ []) (Ends (Throw code.NoMatch))
unfolding apart_at
object_fits_none = (30, (refl, tt, refl))
