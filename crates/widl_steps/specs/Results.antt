-- IDL values to values of the script, by the form of the value.
-- Source: Web IDL, "JavaScript type mapping": how an IDL value of each type is converted to a JavaScript value.
use Rattle.std.specs.Prelude.{ℕ, zero, suc, ◌^◌, ℤ, nat_abs, nat_le, if◌then◌else◌, List, [], ◌∷◌, ◌++◌, length}
use Rattle.std.specs.Option.{option_map_or, unwrap_or}
use Rattle.widl_dialog.specs.Dialog.{End, Say, Steps}
use Rattle.widl_text.specs.declared.key.Key.{Key}
use Rattle.widl_text.specs.declared.key.Key.TheVariants as keys
use Rattle.widl_idl.specs.DefinitionTerms.{DefsTerm}
use Rattle.widl_idl.specs.Terms.{TypeTerm, AnyType}
use Rattle.widl_value.specs.declared.value.Value.{Value}
use Rattle.widl_value.specs.declared.value.Value.TheVariants as values
use Rattle.widl_value.specs.IdlTerms.{IdlTerm, IdlTerms, EntryTerms, MemberTerms, no_values, more_values, no_entries, more_entries, no_members, more_members, UndefinedValue, NullValue, MissingValue, BooleanValue, IntegerValue, StringValue, EnumerationValue, ObjectValue, AnyValue, SequenceValue, RecordValue, DictionaryValue, PromiseValue}
use Rattle.widl_value.specs.Rounding.{nearest_of}
use Rattle.widl_trace.specs.IdlValueTexts.{enumeration_value, member_name}
use Rattle.widl_steps.specs.AskTerms.{AskTerm, UnitAsk, NewAsk, NewArray, NewObject}
use Rattle.widl_steps.specs.Built.{Built}
use Rattle.widl_steps.specs.Tasks.{Container, ArrayOf, ObjectOf, Task, Out, OutItems, OutUnits, Talk, TaskEnd}
use Rattle.widl_steps.specs.Words.{done, normal, returned, returns, no_whole_number, not_built}

-- the text of an enumeration's value; that of a value that the list hasn't is empty
abbrev pub enumeration_text : DefsTerm → ℕ → ℕ → List ℕ
enumeration_text list n place = option_map_or (λ (t : List ℕ). t) (enumeration_value list n place) []

-- an integer is the Number nearest to it. One of a magnitude greater than 2 to the 64, which no integer type has, is no Number of the profile.
abbrev pub integer_to_script : ℤ → Talk
integer_to_script n = if nat_le (nat_abs n) (2 ^ 64) then returns (values.Num (nearest_of n)) else no_whole_number

-- 1. Containers: the items are converted in order, each with its own asks; then a unit is taken for each, and then the array or the object is
-- made

-- the properties of an object, each a plain one
abbrev pub properties : List (List ℕ) → List Value → List (Key × Value)
properties [] made = []
properties (name ∷ names) [] = []
properties (name ∷ names) (v ∷ made) = (keys.Name name, v) ∷ properties names made

abbrev pub container_ask : Container → List Value → AskTerm
container_ask ArrayOf made = NewAsk (NewArray made)
container_ask (ObjectOf names) made = NewAsk (NewObject (properties names made))

-- how a value is converted is told by its form, so the type of an item doesn't matter
abbrev pub item_task : IdlTerm → Task
item_task w = Out AnyType w

abbrev pub item_given : Container → IdlTerms → List Value → TaskEnd → Talk
item_given container left made = returned (λ v. Steps (OutItems container left (made ++ v ∷ [])) End)

abbrev pub out_items : Container → IdlTerms → List Value → Talk
out_items container no_values made = Steps (OutUnits (length made) container made) End
out_items container (more_values w left) made = Steps (item_task w) (item_given container left made)

abbrev pub out_units : ℕ → Container → List Value → Talk
out_units zero container made = Say (container_ask container made) (normal returns)
out_units (suc left) container made = Say UnitAsk (done (Steps (OutUnits left container made) End))

-- 2. What the container of a record or of a dictionary is made of

abbrev pub entry_names : EntryTerms → List (List ℕ)
entry_names no_entries = []
entry_names (more_entries name w entries) = name ∷ entry_names entries

abbrev pub entry_items : EntryTerms → IdlTerms
entry_items no_entries = no_values
entry_items (more_entries name w entries) = more_values w (entry_items entries)

-- that of a member which the list hasn't is empty
abbrev pub member_names : DefsTerm → MemberTerms → List (List ℕ)
member_names list no_members = []
member_names list (more_members dictionary number w members) = unwrap_or (member_name list dictionary number) [] ∷ member_names list members

abbrev pub member_items : MemberTerms → IdlTerms
member_items no_members = no_values
member_items (more_members dictionary number w members) = more_values w (member_items members)

-- 3. All values. A missing one is undefined.
abbrev pub to_script : DefsTerm → IdlTerm → Talk
to_script list UndefinedValue = returns values.Undefined
to_script list NullValue = returns values.Null
to_script list MissingValue = returns values.Undefined
to_script list (BooleanValue b) = returns (values.Bool b)
to_script list (IntegerValue n) = integer_to_script n
to_script list (StringValue text) = returns (values.Str text)
to_script list (EnumerationValue n place) = returns (values.Str (enumeration_text list n place))
to_script list (ObjectValue o) = returns (values.Obj o)
to_script list (AnyValue v) = returns v
to_script list (SequenceValue items) = Steps (OutItems ArrayOf items []) End
to_script list (RecordValue entries) = Steps (OutItems (ObjectOf (entry_names entries)) (entry_items entries) []) End
to_script list (DictionaryValue n members) = Steps (OutItems (ObjectOf (member_names list members)) (member_items members) []) End
to_script list (PromiseValue o) = returns (values.Obj o)

abbrev pub out : Built → DefsTerm → TypeTerm → IdlTerm → Talk
out built list t w = if built.to_script w then to_script list w else not_built
