-- Worked conversations with everything built: containers on their way to script.
use Rattle.std.specs.Prelude.{[], ◌∷◌, false, codes, refl}
use Rattle.widl_dialog.specs.Conversation.{Asks, Ends}
use Rattle.widl_text.specs.declared.key.Key.TheVariants as keys
use Rattle.widl_idl.specs.declared.text_kind.TextKind.TheVariants as texts
use Rattle.widl_idl.specs.Terms.{TypeTerm, StringType, DictionaryType, SequenceType, RecordType}
use Rattle.widl_value.specs.declared.value.Value.TheVariants as values
use Rattle.widl_value.specs.IdlTerms.{StringValue, SequenceValue, RecordValue, DictionaryValue, packed_values, packed_entries, packed_members}
use Rattle.widl_value.specs.Rounding.{near_of, step_of}
use Rattle.widl_steps.specs.AskTerms.{AskTerm, AnswerTerm, UnitAsk, NewAsk, NewArray, NewObject, NormalAnswer}
use Rattle.widl_steps.specs.Tasks.{Task, Out, Plain}
use Rattle.widl_steps.proofs.Worked.{number, integer, plain, takes_unit, derived, long, nothing_defined, Tells}

-- 1. A list of a record of texts: the items of each come first, then a unit for each, then the object or the array

abbrev text : TypeTerm
text = StringType texts.Dom false

abbrev pub list_of_records : Task
list_of_records = Out (SequenceType (RecordType texts.Dom text)) (SequenceValue (packed_values (RecordValue (packed_entries ((codes "b", StringValue (codes "x")) ∷ (codes "a", StringValue (codes "y")) ∷ [])) ∷ [])))

abbrev pub record_is_made : AskTerm × AnswerTerm
record_is_made = (NewAsk (NewObject ((keys.Name (codes "b"), values.Str (codes "x")) ∷ (keys.Name (codes "a"), values.Str (codes "y")) ∷ [])), NormalAnswer (values.Obj (plain 5)))

pub units_are_first : Tells nothing_defined list_of_records [] (Asks UnitAsk)
units_are_first = (60, refl)

object_is_made : Tells nothing_defined list_of_records (takes_unit ∷ takes_unit ∷ []) (Asks (NewAsk (NewObject ((keys.Name (codes "b"), values.Str (codes "x")) ∷ (keys.Name (codes "a"), values.Str (codes "y")) ∷ []))))
object_is_made = (60, (refl, tt, (refl, tt, refl)))

then_its_unit : Tells nothing_defined list_of_records (takes_unit ∷ takes_unit ∷ record_is_made ∷ []) (Asks UnitAsk)
then_its_unit = (60, (refl, tt, (refl, tt, (refl, refl, refl))))

then_the_array : Tells nothing_defined list_of_records (takes_unit ∷ takes_unit ∷ record_is_made ∷ takes_unit ∷ []) (Asks (NewAsk (NewArray (values.Obj (plain 5) ∷ []))))
then_the_array = (60, (refl, tt, (refl, tt, (refl, refl, (refl, tt, refl)))))

list_is_made : Tells nothing_defined list_of_records (takes_unit ∷ takes_unit ∷ record_is_made ∷ takes_unit ∷ (NewAsk (NewArray (values.Obj (plain 5) ∷ [])), NormalAnswer (values.Obj (plain 6))) ∷ []) (Ends (Plain (values.Obj (plain 6))))
list_is_made = (60, (refl, tt, (refl, tt, (refl, refl, (refl, tt, (refl, refl, refl))))))

-- 2. Others

empty_array : Tells nothing_defined (Out (SequenceType long) (SequenceValue (packed_values []))) [] (Asks (NewAsk (NewArray [])))
empty_array = (60, refl)

empty_object : Tells nothing_defined (Out (RecordType texts.Dom long) (RecordValue (packed_entries []))) [] (Asks (NewAsk (NewObject [])))
empty_object = (60, refl)

numbers_in_order : Tells nothing_defined (Out (SequenceType long) (SequenceValue (packed_values (integer 7 ∷ integer 8 ∷ [])))) (takes_unit ∷ takes_unit ∷ []) (Asks (NewAsk (NewArray (number 7 ∷ number 8 ∷ []))))
unfolding near_of step_of lib.Count.count_leading_zeros
numbers_in_order = (60, (refl, tt, (refl, tt, refl)))

-- the object of a dictionary has its members that are there, by the names that the list has
members_by_name : Tells derived (Out (DictionaryType 1) (DictionaryValue 1 (packed_members ((0, 0, integer 2) ∷ (1, 0, integer 5) ∷ [])))) (takes_unit ∷ takes_unit ∷ []) (Asks (NewAsk (NewObject ((keys.Name (codes "b"), number 2) ∷ (keys.Name (codes "c"), number 5) ∷ []))))
unfolding near_of step_of lib.Count.count_leading_zeros
members_by_name = (60, (refl, tt, (refl, tt, refl)))
