-- Worked conversations: IDL values to script, and default values.
use Rattle.std.specs.Prelude.{[], ◌∷◌, None, Some, true, false, codes, refl}
use Rattle.widl_dialog.specs.Conversation.{Ends}
use Rattle.widl_idl.specs.declared.int_kind.IntKind.TheVariants.{Long, ULongLong}
use Rattle.widl_idl.specs.declared.int_kind.Mode.TheVariants.{Wrap}
use Rattle.widl_idl.specs.declared.literal.Literal.TheVariants as literals
use Rattle.widl_idl.specs.declared.text_kind.TextKind.TheVariants as texts
use Rattle.widl_idl.specs.Terms.{packed, AnyType, UndefinedType, BooleanType, IntegerType, StringType, EnumerationType, DictionaryType, ObjectType, SequenceType, PromiseType, NullableType, UnionType}
use Rattle.widl_value.specs.declared.value.Value.TheVariants as values
use Rattle.widl_value.specs.IdlTerms.{UndefinedValue, NullValue, MissingValue, BooleanValue, StringValue, EnumerationValue, ObjectValue, AnyValue, SequenceValue, DictionaryValue, PromiseValue, no_values, no_members, packed_members}
use Rattle.widl_value.specs.Rounding.{near_of, step_of}
use Rattle.widl_steps.specs.Tasks.{Out, Default, Gives, Plain, Profile}
use Rattle.widl_steps.proofs.Worked.{number, integer, plain, takes_unit, derived, nothing_defined, with_values, Says}

-- to script
number_is_nearest : Says nothing_defined (Out (IntegerType ULongLong Wrap) (integer 18446744073709551615)) [] (Ends (Plain (number 18446744073709551616)))
unfolding near_of step_of lib.Count.count_leading_zeros
number_is_nearest = (10, refl)

value_is_text : Says (with_values (codes "on" ∷ codes "off" ∷ [])) (Out (EnumerationType 0) (EnumerationValue 0 1)) [] (Ends (Plain (values.Str (codes "off"))))
value_is_text = (10, refl)

undefined_is_itself : Says nothing_defined (Out UndefinedType UndefinedValue) [] (Ends (Plain values.Undefined))
undefined_is_itself = (10, refl)

null_is_itself : Says nothing_defined (Out (NullableType ObjectType) NullValue) [] (Ends (Plain values.Null))
null_is_itself = (10, refl)

true_is_itself : Says nothing_defined (Out BooleanType (BooleanValue true)) [] (Ends (Plain (values.Bool true)))
true_is_itself = (10, refl)

text_is_itself : Says nothing_defined (Out (StringType texts.Usv false) (StringValue (codes "a"))) [] (Ends (Plain (values.Str (codes "a"))))
text_is_itself = (10, refl)

missing_is_undefined : Says nothing_defined (Out AnyType MissingValue) [] (Ends (Plain values.Undefined))
missing_is_undefined = (10, refl)

object_is_itself : Says nothing_defined (Out ObjectType (ObjectValue (plain 1))) [] (Ends (Plain (values.Obj (plain 1))))
object_is_itself = (10, refl)

anything_is_itself : Says nothing_defined (Out AnyType (AnyValue (values.Sym 3))) [] (Ends (Plain (values.Sym 3)))
anything_is_itself = (10, refl)

no_promise : Says nothing_defined (Out (PromiseType AnyType) (PromiseValue (plain 1))) [] (Ends (Profile 99))
no_promise = (10, refl)

-- default values
without_default : Says nothing_defined (Default AnyType None) [] (Ends (Gives MissingValue))
without_default = (10, refl)

null_of_any : Says nothing_defined (Default AnyType (Some literals.Null)) [] (Ends (Gives (AnyValue values.Null)))
null_of_any = (10, refl)

null_of_nullable : Says nothing_defined (Default (NullableType ObjectType) (Some literals.Null)) [] (Ends (Gives NullValue))
null_of_nullable = (10, refl)

text_of_enumeration : Says (with_values (codes "on" ∷ codes "off" ∷ [])) (Default (NullableType (EnumerationType 0)) (Some (literals.Text (codes "off")))) [] (Ends (Gives (EnumerationValue 0 1)))
text_of_enumeration = (10, refl)

text_in_union : Says (with_values (codes "on" ∷ codes "off" ∷ [])) (Default (UnionType (packed (IntegerType Long Wrap ∷ EnumerationType 0 ∷ []))) (Some (literals.Text (codes "off")))) [] (Ends (Gives (EnumerationValue 0 1)))
text_in_union = (10, refl)

text_is_text : Says nothing_defined (Default (StringType texts.Dom false) (Some (literals.Text (codes "off")))) [] (Ends (Gives (StringValue (codes "off"))))
text_is_text = (10, refl)

true_is_true : Says nothing_defined (Default BooleanType (Some (literals.Bool true))) [] (Ends (Gives (BooleanValue true)))
true_is_true = (10, refl)

undefined_of_any : Says nothing_defined (Default AnyType (Some literals.Undefined)) [] (Ends (Gives (AnyValue values.Undefined)))
undefined_of_any = (10, refl)

empty_sequence : Says nothing_defined (Default (SequenceType AnyType) (Some literals.EmptyList)) [] (Ends (Gives (SequenceValue no_values)))
empty_sequence = (10, refl)

-- `{}` is the dictionary that undefined is converted to, also where null is a value of the type
empty_dictionary : Says nothing_defined (Default (DictionaryType 0) (Some literals.EmptyDict)) [] (Ends (Gives (DictionaryValue 0 no_members)))
empty_dictionary = (10, refl)

dictionary_of_nullable : Says derived (Default (NullableType (DictionaryType 1)) (Some literals.EmptyDict)) (takes_unit ∷ takes_unit ∷ takes_unit ∷ []) (Ends (Gives (DictionaryValue 1 (packed_members ((0, 0, integer 1) ∷ (1, 0, integer 9) ∷ [])))))
dictionary_of_nullable = (60, (refl, tt, (refl, tt, (refl, tt, refl))))
