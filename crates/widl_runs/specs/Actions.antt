-- Actions: the smallest things that a step of a script does to a world, or sees of it. A run is stopped here and nowhere else.
-- Source: ECMA-262, the internal methods of objects and the operations on environment records; units, lines and stops are this program's own.
use Rattle.std.specs.Prelude.{ℕ, ◌+◌, ◌-◌, nat_lt, Bool, true, false, if◌then◌else◌, decimal, List, [], ◌∷◌, ◌++◌, length, map, filter, Option, None, Some, option_map, slice_get}
use Rattle.std.specs.Option.{option_map_or, unwrap_or}
use Rattle.std.specs.declared.result.Result.{Result}
use Rattle.std.specs.declared.result.Result.TheVariants as results
use Rattle.widl_dialog.specs.Runs.{Did, Went, Stops}
use Rattle.widl_text.specs.declared.key.Key.{Key}
use Rattle.widl_text.specs.declared.key.Key.TheVariants as keys
use Rattle.widl_text.specs.Limits.{most_open_calls}
use Rattle.widl_idl.specs.DefinitionTerms.{DefsTerm}
use Rattle.widl_value.specs.declared.object.ObjRef.{ObjRef}
use Rattle.widl_value.specs.declared.object.Shape.TheVariants as shapes
use Rattle.widl_value.specs.declared.value.Value.{Value}
use Rattle.widl_value.specs.declared.value.Value.TheVariants as values
use Rattle.widl_store.specs.declared.effects.DefineFault.{DefineFault}
use Rattle.widl_store.specs.declared.effects.NotConfigurable as refusal
use Rattle.widl_store.specs.declared.effects.Put.{Put}
use Rattle.widl_store.specs.declared.effects.Put.TheVariants as puts
use Rattle.widl_store.specs.declared.effects.PutFault.{PutFault}
use Rattle.widl_store.specs.declared.inner.Builtin.{Builtin}
use Rattle.widl_store.specs.declared.inner.Builtin.TheVariants as builtins
use Rattle.widl_store.specs.declared.inner.Turn.TheVariants.{Idle}
use Rattle.widl_store.specs.declared.property.Prop.{Prop}
use Rattle.widl_store.specs.declared.property.Prop.TheVariants as props
use Rattle.widl_store.specs.Inners.{InnerTerm, PlainPart, ArrayPart, ErrorPart, ScriptPart, BuiltinPart, InterfacePart, ArrayIteratorPart}
use Rattle.widl_store.specs.Objects.{Obj, with_objects, all_flags, flags_of, own_at, plain_object}
use Rattle.widl_store.specs.OwnKeys.{is_index, is_name, is_symbol, number_of, keys_at}
use Rattle.widl_store.specs.Found.{found_at}
use Rattle.widl_store.specs.Plans.{Plan, function_entries}
use Rattle.widl_store.specs.Effects.{is_fixed, put_of, put_in, define_of, defined, delete_of, deleted, added, with_inner}
use Rattle.widl_script_tree.specs.Trees.{Text}
use Rattle.widl_trace.specs.EventTerms.{EventTerm}
use Rattle.widl_sink.specs.Lines.{line_cost}
use Rattle.widl_trace.specs.EventLines.{line_of}
use Rattle.widl_steps.specs.declared.ask.Look.{Look}
use Rattle.widl_steps.specs.AskTerms.{NewTerm, NewArray, NewObject, NewArrayIterator, ChangeTerm, SetCursor, AnswerTerm, KeysAnswer, OwnAnswer, SightAnswer, shape_of}
use Rattle.widl_runs.specs.declared.stop.Stop.{Stop}
use Rattle.widl_runs.specs.declared.stop.Stop.TheVariants as stops
use Rattle.widl_runs.specs.Looks.{sight_of}
use Rattle.widl_runs.specs.Worlds.{Context, World, named_value, bound_world, this_value, outer_contexts}

-- what a call of an object does
pub data Body : Type 0 where
  -- the statements of the function of this number
  ScriptBody : ℕ → Body
  BuiltinBody : Builtin → Body
  -- the object can't be called
  NoBody : Body

pub data Action : Type 0 where
  -- these cost units: one, those of a line
  Pay : Action
  Write : EventTerm → Action
  -- calls and their contexts
  TestDepth : Action
  Enter : Context → Action
  Leave : Action
  FindBody : ObjRef → Action
  -- names
  ReadThis : Action
  ReadName : Text → Action
  BindName : Text → Value → Action
  -- the next symbol, and new objects
  TakeSymbol : Action
  AddObject : Plan → Action
  -- properties
  FindProperty : ObjRef → Key → Action
  PutProperty : ObjRef → Key → Value → Action
  DefineProperty : ObjRef → Key → Prop → Action
  DeleteProperty : ObjRef → Key → Action
  -- the own keys of an object, and an own property of it
  FindKeys : ObjRef → Action
  FindOwn : ObjRef → Key → Action
  -- the inner part of an object, and a change of it
  FindInner : ObjRef → Action
  ChangePart : ObjRef → ChangeTerm → Action
  -- an end of the profile, by its number
  Reach : ℕ → Action

pub data Reply : Type 0 where
  IsDone : Reply
  IsValue : Value → Reply
  IsObject : ObjRef → Reply
  IsBody : Body → Reply
  IsProperty : Option Prop → Reply
  IsPut : Result Put PutFault → Reply
  IsDefined : Result (Unit {0}) DefineFault → Reply
  IsDeleted : Result (Unit {0}) refusal.NotConfigurable → Reply
  AreKeys : List Key → Reply
  IsInner : Option InnerTerm → Reply

-- 1. What is in a reply. No other reply comes than the action gives; the last case of each is only there so that each reply has one

abbrev pub value_in : Reply → Value
value_in (IsValue value) = value
value_in _ = values.Undefined

abbrev pub object_in : Reply → ObjRef
object_in (IsObject object) = object
object_in _ = plain_object 0

abbrev pub body_in : Reply → Body
body_in (IsBody body) = body
body_in _ = NoBody

abbrev pub property_in : Reply → Option Prop
property_in (IsProperty found) = found
property_in _ = None

abbrev pub put_result_in : Reply → Result Put PutFault
put_result_in (IsPut answer) = answer
put_result_in _ = results.Ok puts.Done

abbrev pub define_result_in : Reply → Result (Unit {0}) DefineFault
define_result_in (IsDefined answer) = answer
define_result_in _ = results.Ok tt

abbrev pub delete_result_in : Reply → Result (Unit {0}) refusal.NotConfigurable
delete_result_in (IsDeleted answer) = answer
delete_result_in _ = results.Ok tt

abbrev pub keys_in : Reply → List Key
keys_in (AreKeys keys) = keys
keys_in _ = []

abbrev pub inner_in : Reply → Option InnerTerm
inner_in (IsInner inner) = inner
inner_in _ = None

-- 2. New objects, each as a plan: its prototype, its shape, its inner part, and the properties that are defined one after another

-- Object.prototype, Function.prototype, Array.prototype, TypeError.prototype and %ArrayIteratorPrototype%, with the numbers that the initial
-- store gives them
pub data Prototype : Type 0 where
  ObjectPrototype : Prototype
  FunctionPrototype : Prototype
  ArrayPrototype : Prototype
  TypeErrorPrototype : Prototype
  ArrayIteratorPrototype : Prototype

abbrev pub prototype : Prototype → ObjRef
prototype ObjectPrototype = plain_object 0
prototype FunctionPrototype = plain_object 1
prototype ArrayPrototype = plain_object 2
prototype TypeErrorPrototype = plain_object 4
prototype ArrayIteratorPrototype = plain_object 7

-- an ordinary object with this prototype
abbrev pub ordinary : Option ObjRef → Plan
ordinary proto = record { proto = proto; shape = shapes.Plain; inner = PlainPart; entries = [] }

-- the function of this number, with its name and how many parameters it has: its properties are its length, then its name (ECMA-262,
-- SetFunctionLength and SetFunctionName)
abbrev pub script_function : ℕ → Text → ℕ → Plan
script_function number name count = record { proto = Some (prototype FunctionPrototype); shape = shapes.Callable; inner = ScriptPart number; entries = function_entries count name }

abbrev pub type_error : Plan
type_error = record { proto = Some (prototype TypeErrorPrototype); shape = shapes.Plain; inner = ErrorPart; entries = [] }

-- the items, from this index on, as properties with all flags (ECMA-262, CreateArrayFromList)
abbrev pub item_properties : ℕ → List Value → List (Key × Prop)
item_properties index [] = []
item_properties index (item ∷ items) = (keys.Name (decimal index), props.Plain item all_flags) ∷ item_properties (index + 1) items

-- properties with all flags (ECMA-262, CreateDataProperty)
abbrev pub data_properties : List (Key × Value) → List (Key × Prop)
data_properties entries = map (λ (entry : Key × Value). (entry.0, props.Plain entry.1 all_flags)) entries

-- what conversations ask for, and the arrays of a script: the prototype, the inner part, the properties
abbrev pub prototype_of : NewTerm → Prototype
prototype_of (NewArray items) = ArrayPrototype
prototype_of (NewObject entries) = ObjectPrototype
prototype_of (NewArrayIterator object) = ArrayIteratorPrototype

abbrev pub part_of : NewTerm → InnerTerm
part_of (NewArray items) = ArrayPart
part_of (NewObject entries) = PlainPart
part_of (NewArrayIterator object) = ArrayIteratorPart object 0 Idle

abbrev pub properties_of : NewTerm → List (Key × Prop)
properties_of (NewArray items) = item_properties 0 items
properties_of (NewObject entries) = data_properties entries
properties_of (NewArrayIterator object) = []

abbrev pub plan_of : NewTerm → Plan
plan_of new = record { proto = Some (prototype (prototype_of new)); shape = shape_of new; inner = part_of new; entries = properties_of new }

-- with these properties, defined one after another
abbrev pub with_properties : List Obj → ℕ → List (Key × Prop) → List Obj
with_properties objects id [] = objects
with_properties objects id (entry ∷ entries) = with_properties (defined objects id entry.0 entry.1) id entries

-- the objects with a new one, whose number is the next
abbrev pub with_new : List Obj → Plan → List Obj
with_new objects plan = with_properties (added objects plan.proto plan.shape plan.inner) (length objects) plan.entries

abbrev pub new_reference : ℕ → Plan → ObjRef
new_reference id plan = record { id = id; shape = plan.shape }

-- 3. What is seen of an object

abbrev pub body_of : InnerTerm → Body
body_of (ScriptPart number) = ScriptBody number
body_of (BuiltinPart function) = BuiltinBody function
body_of (InterfacePart iface slots) = BuiltinBody (builtins.InterfaceObject iface)
body_of _ = NoBody

abbrev pub body_at : List Obj → ObjRef → Body
body_at objects object = option_map_or (λ o. body_of o.inner) (slice_get objects object.id) NoBody

abbrev pub put_result : List Obj → ObjRef → Key → Value → Result Put PutFault
put_result objects object key value = put_of (is_fixed objects object.id key) (found_at objects object.id key) value

abbrev pub define_result : List Obj → ObjRef → Key → Result (Unit {0}) DefineFault
define_result objects object key = define_of (is_fixed objects object.id key) (own_at objects object.id key)

-- a change is made where nothing refuses it
abbrev pub is_made : {E : Type 0} → Result (Unit {0}) E → Bool
is_made (results.Ok done) = true
is_made (results.Err fault) = false

abbrev pub is_put : Result Put PutFault → Bool
is_put (results.Ok puts.Done) = true
is_put (results.Ok (puts.Setter setter value)) = false
is_put (results.Err fault) = false

abbrev pub inner_at : List Obj → ObjRef → Option InnerTerm
inner_at objects object = option_map (λ o. o.inner) (slice_get objects object.id)

-- the keys that are indices rise, and then come the names and the symbols, each in the order of creation (ECMA-262, OrdinaryOwnPropertyKeys)
abbrev pub with_index : Key → List Key → List Key
with_index key [] = key ∷ []
with_index key (other ∷ keys) = if nat_lt (number_of other) (number_of key) then other ∷ with_index key keys else key ∷ other ∷ keys

abbrev pub by_index : List Key → List Key
by_index [] = []
by_index (key ∷ keys) = with_index key (by_index keys)

abbrev pub own_keys_of : List Key → List Key
own_keys_of keys = by_index (filter is_index keys) ++ (filter is_name keys ++ filter is_symbol keys)

-- what a look shows; where there is no object, what a plain one shows
abbrev pub sight_seen : Look → Reply → AnswerTerm
sight_seen what r = SightAnswer (sight_of what (unwrap_or (inner_in r) PlainPart))

abbrev pub keys_seen : Reply → AnswerTerm
keys_seen r = KeysAnswer (keys_in r)

abbrev pub own_seen : Reply → AnswerTerm
own_seen r = OwnAnswer (option_map flags_of (property_in r))

-- an inner part that is changed: an iterator over an array is moved on; iterators over pairs aren't moved yet
abbrev pub changed_part : ChangeTerm → InnerTerm → InnerTerm
changed_part (SetCursor next turn) (ArrayIteratorPart of _ _) = ArrayIteratorPart of next turn
changed_part (SetCursor next turn) inner = inner

abbrev pub with_change : List Obj → ObjRef → ChangeTerm → List Obj
with_change objects object change = option_map_or (λ inner. with_inner objects object.id (changed_part change inner)) (inner_at objects object) objects

-- 4. What an action does

abbrev pub with_store : World → List Obj → World
with_store w objects = record w { store = with_objects w.store objects }

-- a cost above the units that are left takes none of them: the run stops there
abbrev pub paid : ℕ → World → World → Did World Reply Stop
paid cost w v = if nat_lt w.units cost then Stops stops.Budget else Went (record v { units = w.units - cost }) IsDone

-- the units of an event's line
abbrev pub event_cost : DefsTerm → EventTerm → ℕ
event_cost list event = line_cost (line_of list event)

abbrev pub act : DefsTerm → Action → World → Did World Reply Stop
act list Pay w = paid 1 w w
act list (Write event) w = paid (event_cost list event) w (record w { lines = w.lines ++ event ∷ [] })
act list TestDepth w = if nat_lt (length w.contexts) most_open_calls then Went w IsDone else Stops stops.Depth
act list (Enter context) w = Went (record w { contexts = context ∷ w.contexts }) IsDone
act list Leave w = Went (record w { contexts = outer_contexts w.contexts }) IsDone
act list (FindBody object) w = Went w (IsBody (body_at w.store.objects object))
act list ReadThis w = Went w (IsValue (this_value w.contexts))
act list (ReadName name) w = Went w (IsValue (named_value list w name))
act list (BindName name value) w = Went (bound_world w name value) IsDone
act list TakeSymbol w = Went (record w { next_symbol = w.next_symbol + 1 }) (IsValue (values.Sym w.next_symbol))
act list (AddObject plan) w = Went (with_store w (with_new w.store.objects plan)) (IsObject (new_reference (length w.store.objects) plan))
act list (FindProperty object key) w = Went w (IsProperty (found_at w.store.objects object.id key))
act list (PutProperty object key value) w =
    let answer = put_result w.store.objects object key value in
    Went (if is_put answer then with_store w (put_in w.store.objects object.id key value) else w) (IsPut answer)
act list (DefineProperty object key prop) w =
    let answer = define_result w.store.objects object key in
    Went (if is_made answer then with_store w (defined w.store.objects object.id key prop) else w) (IsDefined answer)
act list (DeleteProperty object key) w =
    let answer = delete_of (own_at w.store.objects object.id key) in
    Went (if is_made answer then with_store w (deleted w.store.objects object.id key) else w) (IsDeleted answer)
act list (FindKeys object) w = Went w (AreKeys (own_keys_of (keys_at w.store.objects object.id)))
act list (FindOwn object key) w = Went w (IsProperty (own_at w.store.objects object.id key))
act list (FindInner object) w = Went w (IsInner (inner_at w.store.objects object))
act list (ChangePart object change) w = Went (with_store w (with_change w.store.objects object change)) IsDone
act list (Reach end) w = Stops (stops.Profile end)
