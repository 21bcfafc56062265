-- For proofs and contracts alone; no step names these words. How many moves without a charge a suspended conversation still makes, at most.
use Rattle.std.specs.Prelude.{ℕ, ◌+◌, ◌-◌, ◌*◌, ◌^◌, List, length}
use Rattle.widl_idl.specs.declared.callee.Callee.{Callee}
use Rattle.widl_idl.specs.DefinitionTerms.{DefsTerm}
use Rattle.widl_idl.specs.Terms.{TypeTerm, StringType}
use Rattle.widl_value.specs.declared.value.Value.{Value}
use Rattle.widl_value.specs.declared.value.Value.TheVariants as values
use Rattle.widl_value.specs.IdlTerms.{IdlTerm, IdlTerms, EntryTerms, MemberTerms, UndefinedValue, NullValue, MissingValue, BooleanValue, IntegerValue, StringValue, EnumerationValue, ObjectValue, AnyValue, SequenceValue, RecordValue, DictionaryValue, PromiseValue, no_values, more_values, no_entries, more_entries, no_members, more_members, idl_terms, member_terms, packed_entries, packed_members}
use Rattle.widl_overload.specs.sets.Entries.{declared_args, overloads_of}
use Rattle.widl_overload.specs.sets.Sets.{longest}
use Rattle.widl_steps.specs.declared.want.Want.{Want}
use Rattle.widl_steps.specs.declared.want.Want.TheVariants as wants
use Rattle.widl_steps.specs.Tasks.{Task, Primitive, Scalar, Convert, Resolve, Arguments, Default, Defaults, Out, TaskEnd, Gives, Plain, SequenceFrom, Turns, Entries, Members, OutItems, OutUnits}
use Rattle.widl_convert.specs.declared.frames.Frame.{Frame}
use Rattle.widl_convert.specs.declared.frames.Frame.TheVariants as frames
use Rattle.widl_convert.specs.declared.frames.IdlFrame.{IdlFrame}
use Rattle.widl_convert.specs.declared.frames.IdlFrame.TheVariants as idls
use Rattle.widl_convert.specs.declared.frames.ValueFrame.{ValueFrame}
use Rattle.widl_convert.specs.declared.frames.ValueFrame.TheVariants as plains
use Rattle.widl_convert.specs.declared.moves.Move.{Move}
use Rattle.widl_convert.specs.declared.moves.Move.TheVariants as moves
use Rattle.widl_convert.specs.declared.resolution.Resolution.{Resolution}
use Rattle.widl_convert.specs.declared.waits.Wait.{Wait}
use Rattle.widl_convert.specs.declared.waits.Wait.TheVariants as waits
use Rattle.widl_convert.specs.Entries.{left_from}
use Rattle.widl_convert.specs.Frames.{entries_in, items_left, job_of, end_of, keys_left}

-- 1. Conversions

-- the way of an object to its Number or String, which no value but an object takes
abbrev pub object_load : ℕ
object_load = 5

abbrev pub if_object : Value → ℕ
if_object (values.Obj o) = object_load
if_object _ = 0

abbrev pub scalar_load : Want → Value → ℕ
scalar_load wants.Number v = if_object v
scalar_load wants.Text v = if_object v
scalar_load wants.Length v = 2 + if_object v

-- the way of a value to an IDL value of a type over a Number or a String
abbrev pub scalar_conversion_load : ℕ
scalar_conversion_load = 7

-- a key of an object, with the way on to the next
abbrev pub entry_load : ℕ
entry_load = 3 + scalar_conversion_load

-- the keys of an object, of which a list has fewer than 2 ^ 64
abbrev pub keys_load : ℕ
keys_load = 2 + entry_load * 2 ^ 64

-- the way of a value to an IDL value of a type: of no type longer than over the keys of an object
abbrev pub conversion_load : ℕ
conversion_load = keys_load

-- the keys themselves become texts
abbrev pub type_load : TypeTerm → ℕ
type_load (StringType kind null_empty) = scalar_conversion_load
type_load _ = conversion_load

-- a default value may be a conversion
abbrev pub default_load : ℕ
default_load = 1 + conversion_load

-- an argument or a default value, with the way on to the next
abbrev pub argument_load : ℕ
argument_load = 3 + default_load

-- the declared arguments that come after so many
abbrev pub defaults_load : DefsTerm → Callee → ℕ → ℕ → ℕ
defaults_load list callee overload made = argument_load * (length (declared_args list callee overload) - made)

-- those of any overload of the callee
abbrev pub room : DefsTerm → Callee → ℕ
room list callee = 1 + argument_load * longest (overloads_of list callee)

-- the arguments that are left
abbrev pub arguments_load : DefsTerm → Callee → ℕ → ℕ
arguments_load list callee left = argument_load * left + room list callee

-- 2. The items of a value on its way to script, at any depth

-- an item, with the way on to the next
abbrev pub item_load : ℕ
item_load = 3 + object_load

abbrev mutual
  pub value_load : IdlTerm → ℕ
  value_load UndefinedValue = 0
  value_load NullValue = 0
  value_load MissingValue = 0
  value_load (BooleanValue b) = 0
  value_load (IntegerValue n) = 0
  value_load (StringValue text) = 0
  value_load (EnumerationValue n place) = 0
  value_load (ObjectValue o) = 0
  value_load (AnyValue v) = 0
  value_load (SequenceValue items) = items_load items
  value_load (RecordValue entries) = entry_items_load entries
  value_load (DictionaryValue n members) = member_items_load members
  value_load (PromiseValue o) = 0

  pub items_load : IdlTerms → ℕ
  items_load no_values = 0
  items_load (more_values w left) = item_load + value_load w + items_load left

  pub entry_items_load : EntryTerms → ℕ
  entry_items_load no_entries = 0
  entry_items_load (more_entries name w left) = item_load + value_load w + entry_items_load left

  pub member_items_load : MemberTerms → ℕ
  member_items_load no_members = 0
  member_items_load (more_members dictionary number w left) = item_load + value_load w + member_items_load left

-- those of the entries of a record and of the members of a dictionary that have come
abbrev pub made_entries_load : List (List ℕ × IdlTerm) → ℕ
made_entries_load made = entry_items_load (packed_entries made)

abbrev pub made_members_load : List (ℕ × ℕ × IdlTerm) → ℕ
made_members_load made = member_items_load (packed_members made)

-- 3. Tasks, ends, frames and waits

-- what a task does before a charge, at most. It may depend on the list: on what an overload declares.
abbrev pub load : DefsTerm → Task → ℕ
load list (Primitive hint v) = 0
load list (Scalar want v) = scalar_load want v
load list (Convert t v) = type_load t
load list (SequenceFrom t o method) = 0
load list (Turns t iterator next made) = 0
load list (Entries key t o left made) = entry_load * length left + made_entries_load made
load list (Resolve callee args) = 1 + arguments_load list callee (length args)
load list (Arguments callee entries place left made) = arguments_load list callee (length left)
load list (Default t l) = default_load
load list (Defaults callee overload made) = defaults_load list callee overload (length made)
load list (Out t w) = object_load + value_load w
load list (Members n o left made) = made_members_load made
load list (OutItems container left made) = 1 + items_load left
load list (OutUnits left container made) = 0

-- what comes of a value that is given: it may go to script
abbrev pub given_load : TaskEnd → ℕ
given_load (Gives w) = value_load w
given_load _ = 0

-- what comes of an end: an object may have to become a Number
abbrev pub end_load : TaskEnd → ℕ
end_load (Plain v) = if_object v
end_load (Gives w) = value_load w
end_load _ = 0

-- what a frame does after the task that it waits for, beside what comes of the end

-- an argument that is taken, with those that are left after it
abbrev pub taken_load : DefsTerm → Resolution → ℕ
taken_load list r = argument_load + arguments_load list r.kept.callee (length (left_from (length (idl_terms r.made) + 1) r.kept r.args))

abbrev pub idl_frame_load : DefsTerm → IdlFrame → ℕ
idl_frame_load list (idls.Argument r) = 2 + arguments_load list r.value.kept.callee (length (left_from (length (idl_terms r.value.made) + 1) r.value.kept r.value.args))
idl_frame_load list (idls.Defaulted b) = 2 + defaults_load list b.callee b.overload (length (idl_terms b.made) + 1)
idl_frame_load list (idls.Element i) = 2
idl_frame_load list (idls.Property p) = 2 + item_load + entry_load * length (keys_left p.left.value) + made_entries_load (entries_in p.left.value.made)
idl_frame_load list (idls.Member w) = 2 + item_load + made_members_load (member_terms w.filling.value.made)

abbrev pub value_frame_load : ValueFrame → ℕ
value_frame_load (plains.Scalar want) = 4
value_frame_load (plains.Item o) = 3 + items_load (items_left o.value)

abbrev pub frame_load : DefsTerm → Frame → ℕ
frame_load list (frames.Value f) = value_frame_load f
frame_load list (frames.Number f) = 1
frame_load list (frames.Text f) = 1
frame_load list (frames.Idl f) = idl_frame_load list f
frame_load list (frames.Key p) = 1

-- what a wait does after the answer to an ask that takes no charge
abbrev pub patience : Wait → ℕ
patience (waits.Value w) = 0
patience (waits.Keys r) = keys_load
patience (waits.Own p) = entry_load + entry_load * length (keys_left p.left.value) + made_entries_load (entries_in p.left.value.made)
patience (waits.Unit w) = 0
patience (waits.Item f) = 0

abbrev pub weight : DefsTerm → Move → ℕ
weight list (moves.Asks p) = patience p.wait
weight list (moves.Gives r) = end_load (end_of r)
weight list (moves.Steps f j) = 1 + frame_load list f + load list (job_of list j)
weight list (moves.Goes j) = 1 + load list (job_of list j)
