-- Worked conversations: numbers, texts, and the types that need no more.
use Rattle.std.specs.Prelude.{[], ◌∷◌, true, false, codes, refl}
use Rattle.std.specs.Char.Utf16.{utf16_chars}
use Rattle.widl_dialog.specs.Conversation.{Asks, Ends}
use Rattle.widl_text.specs.declared.key.Key.TheVariants as keys
use Rattle.widl_idl.specs.declared.int_kind.IntKind.TheVariants.{Octet, Long, LongLong}
use Rattle.widl_idl.specs.declared.int_kind.Mode.TheVariants.{Wrap, Clamp, Enforce}
use Rattle.widl_idl.specs.declared.text_kind.TextKind.TheVariants as texts
use Rattle.widl_idl.specs.Terms.{AnyType, UndefinedType, BooleanType, IntegerType, StringType, EnumerationType, InterfaceType, ObjectType}
use Rattle.widl_value.specs.declared.number.Number.TheVariants as numbers
use Rattle.widl_value.specs.declared.value.Value.TheVariants as values
use Rattle.widl_value.specs.IdlTerms.{UndefinedValue, BooleanValue, StringValue, EnumerationValue, ObjectValue, AnyValue}
use Rattle.widl_value.specs.Rounding.{near_of, step_of}
use Rattle.widl_scalar.specs.WhiteSpace.{trimmed, is_white}
use Rattle.widl_scalar.specs.NumeralWords.{exact_of, read_of, read_radix, read_unsigned}
use Rattle.widl_trace.specs.declared.code.Code.TheVariants as code
use Rattle.widl_steps.specs.declared.want.Want.TheVariants as wants
use Rattle.widl_steps.specs.AskTerms.{GetAsk}
use Rattle.widl_steps.specs.Tasks.{Convert, Scalar, Gives, Plain, Throw, Profile}
use Rattle.widl_steps.proofs.Worked.{number, integer, plain, function, gets, gets_name, calls, nothing_defined, with_values, Says}

-- integers: modulo, in a range, clamped
octet_wraps : Says nothing_defined (Convert (IntegerType Octet Wrap) (number 300)) [] (Ends (Gives (integer 44)))
octet_wraps = (10, refl)

octet_out_of_range : Says nothing_defined (Convert (IntegerType Octet Enforce) (number 256)) [] (Ends (Throw code.Range))
octet_out_of_range = (10, refl)

octet_in_range : Says nothing_defined (Convert (IntegerType Octet Enforce) (number 255)) [] (Ends (Gives (integer 255)))
octet_in_range = (10, refl)

long_long_clamps : Says nothing_defined (Convert (IntegerType LongLong Clamp) (values.Num numbers.PosInf)) [] (Ends (Gives (integer 9007199254740991)))
long_long_clamps = (10, refl)

undefined_is_zero : Says nothing_defined (Convert (IntegerType Long Wrap) values.Undefined) [] (Ends (Gives (integer 0)))
undefined_is_zero = (10, refl)

-- numerals: one that isn't whole is an end of the profile
numeral_is_read : Says nothing_defined (Convert (IntegerType Long Wrap) (values.Str (codes " 0x1F\n"))) [] (Ends (Gives (integer 31)))
unfolding trimmed is_white read_of read_radix exact_of near_of step_of lib.Count.count_leading_zeros
numeral_is_read = (10, refl)

half_is_out_of_profile : Says nothing_defined (Convert (IntegerType Long Wrap) (values.Str (codes "1.5"))) [] (Ends (Profile 1))
unfolding trimmed is_white read_of read_unsigned exact_of
half_is_out_of_profile = (10, refl)

symbol_has_no_number : Says nothing_defined (Convert (IntegerType Long Wrap) (values.Sym 3)) [] (Ends (Throw code.Symbol))
symbol_has_no_number = (10, refl)

-- an object's number is that of its primitive value
object_has_number : Says nothing_defined (Convert (IntegerType Long Wrap) (values.Obj (plain 1))) (gets (plain 1) (keys.Sym 1) values.Undefined ∷ gets_name (plain 1) (codes "valueOf") (values.Obj (function 2)) ∷ calls (function 2) (values.Obj (plain 1)) [] values.Null ∷ []) (Ends (Gives (integer 0)))
object_has_number = (30, (refl, tt, (refl, tt, (refl, tt, refl))))

-- lengths
length_is_bounded : Says nothing_defined (Scalar wants.Length (values.Num numbers.PosInf)) [] (Ends (Plain (number 9007199254740991)))
length_is_bounded = (10, refl)

-- texts
null_is_text : Says nothing_defined (Convert (StringType texts.Dom false) values.Null) [] (Ends (Gives (StringValue (codes "null"))))
null_is_text = (10, refl)

null_is_empty : Says nothing_defined (Convert (StringType texts.Usv true) values.Null) [] (Ends (Gives (StringValue [])))
null_is_empty = (10, refl)

undefined_is_text : Says nothing_defined (Convert (StringType texts.Dom true) values.Undefined) [] (Ends (Gives (StringValue (codes "undefined"))))
undefined_is_text = (10, refl)

-- a surrogate without a partner stays in a DOMString, and none is in a USVString
surrogate_stays : Says nothing_defined (Convert (StringType texts.Dom false) (values.Str (55296 ∷ 97 ∷ []))) [] (Ends (Gives (StringValue (55296 ∷ 97 ∷ []))))
surrogate_stays = (10, refl)

surrogate_is_replaced : Says nothing_defined (Convert (StringType texts.Usv false) (values.Str (55296 ∷ 97 ∷ []))) [] (Ends (Gives (StringValue (65533 ∷ 97 ∷ []))))
unfolding utf16_chars
surrogate_is_replaced = (10, refl)

-- each unit of a ByteString is a byte
unit_is_no_byte : Says nothing_defined (Convert (StringType texts.Byte false) (values.Str (256 ∷ []))) [] (Ends (Throw code.Byte))
unit_is_no_byte = (10, refl)

unit_is_byte : Says nothing_defined (Convert (StringType texts.Byte false) (values.Str (255 ∷ []))) [] (Ends (Gives (StringValue (255 ∷ []))))
unit_is_byte = (10, refl)

first_is_no_byte : Says nothing_defined (Convert (StringType texts.Byte false) (values.Str (256 ∷ 65 ∷ []))) [] (Ends (Throw code.Byte))
first_is_no_byte = (10, refl)

no_unit : Says nothing_defined (Convert (StringType texts.Byte false) (values.Str [])) [] (Ends (Gives (StringValue [])))
no_unit = (10, refl)

symbol_has_no_text : Says nothing_defined (Convert (StringType texts.Dom false) (values.Sym 3)) [] (Ends (Throw code.Symbol))
symbol_has_no_text = (10, refl)

-- an object's text is asked for by `toString` first
object_has_text : Says nothing_defined (Convert (StringType texts.Dom false) (values.Obj (plain 1))) (gets (plain 1) (keys.Sym 1) values.Undefined ∷ []) (Asks (GetAsk (plain 1) (keys.Name (codes "toString"))))
object_has_text = (30, (refl, tt, refl))

-- and is the text of what that gives
text_of_null : Says nothing_defined (Convert (StringType texts.Dom true) (values.Obj (plain 1))) (gets (plain 1) (keys.Sym 1) values.Undefined ∷ gets_name (plain 1) (codes "toString") (values.Obj (function 2)) ∷ calls (function 2) (values.Obj (plain 1)) [] values.Null ∷ []) (Ends (Gives (StringValue (codes "null"))))
text_of_null = (30, (refl, tt, (refl, tt, (refl, tt, refl))))

-- enumerations
on_off : Says (with_values (codes "on" ∷ codes "off" ∷ [])) (Convert (EnumerationType 0) (values.Str (codes "off"))) [] (Ends (Gives (EnumerationValue 0 1)))
on_off = (10, refl)

no_such_value : Says (with_values (codes "on" ∷ codes "off" ∷ [])) (Convert (EnumerationType 0) (values.Str (codes "no"))) [] (Ends (Throw code.Enum))
no_such_value = (10, refl)

no_such_enumeration : Says nothing_defined (Convert (EnumerationType 7) (values.Str (codes "on"))) [] (Ends (Throw code.Enum))
no_such_enumeration = (10, refl)

-- values that are taken as they are
truth : Says nothing_defined (Convert BooleanType (values.Str [])) [] (Ends (Gives (BooleanValue false)))
truth = (10, refl)

truth_of_object : Says nothing_defined (Convert BooleanType (values.Obj (plain 1))) [] (Ends (Gives (BooleanValue true)))
truth_of_object = (10, refl)

nothing : Says nothing_defined (Convert UndefinedType (number 1)) [] (Ends (Gives UndefinedValue))
nothing = (10, refl)

object : Says nothing_defined (Convert ObjectType (values.Obj (plain 1))) [] (Ends (Gives (ObjectValue (plain 1))))
object = (10, refl)

no_object : Says nothing_defined (Convert ObjectType (number 1)) [] (Ends (Throw code.NotObject))
no_object = (10, refl)

anything : Says nothing_defined (Convert AnyType (values.Sym 3)) [] (Ends (Gives (AnyValue (values.Sym 3))))
anything = (10, refl)

-- a conversion that isn't built
no_interface : Says nothing_defined (Convert (InterfaceType 0) values.Undefined) [] (Ends (Profile 99))
no_interface = (10, refl)
