-- For proofs alone. What holds live references alone, among the objects of a store.
use Rattle.std.specs.Prelude.{List, [], ◌∷◌, Option, None, Some, IfSome}
use Rattle.std.specs.declared.result.Result.{Result}
use Rattle.std.specs.declared.result.Result.TheVariants as results
use Rattle.widl_text.specs.declared.key.Key.{Key}
use Rattle.widl_value.specs.declared.object.ObjRef.{ObjRef}
use Rattle.widl_value.specs.declared.value.Value.{Value}
use Rattle.widl_value.specs.declared.value.Value.TheVariants as values
use Rattle.widl_store.specs.declared.effects.Put.{Put}
use Rattle.widl_store.specs.declared.effects.Put.TheVariants as puts
use Rattle.widl_store.specs.declared.effects.PutFault.{PutFault}
use Rattle.widl_store.specs.declared.property.Prop.{Prop}
use Rattle.widl_store.specs.declared.property.Prop.TheVariants as props
use Rattle.widl_value.specs.IdlTerms.{IdlTerm, IdlTerms, EntryTerms, MemberTerms, no_values, more_values as next_value, no_entries, more_entries, no_members, more_members, UndefinedValue, NullValue, MissingValue, BooleanValue, IntegerValue, StringValue, EnumerationValue, ObjectValue, AnyValue, SequenceValue, RecordValue, DictionaryValue, PromiseValue}
use Rattle.widl_store.specs.Inners.{InnerTerm, PlainPart, ArrayPart, ErrorPart, ScriptPart, BuiltinPart, InterfacePart, PlatformPart, SpacePart, PairIteratorPart, ArrayIteratorPart, PromisePart}
use Rattle.widl_store.specs.Objects.{Obj, IsLive}
use Rattle.widl_steps.specs.declared.answer.CursorState.{CursorState}
use Rattle.widl_steps.specs.declared.answer.CursorState.TheVariants as cursors
use Rattle.widl_steps.specs.declared.ask.Look.{Look}
use Rattle.widl_steps.specs.declared.ask.Look.TheVariants as looks
use Rattle.widl_steps.specs.ArrayFunctions.{cursor_in}
use Rattle.widl_steps.specs.AskTerms.{ChangeTerm, SetCursor, Sight, KindSight, CursorSight, Shows, AnswerTerm, BeginAnswer, DoneAnswer, NormalAnswer, ThrownAnswer, KeysAnswer, OwnAnswer, SightAnswer}
use Rattle.widl_steps.specs.Tasks.{TaskEnd, Gives, Plain, Picks, Throw, Rethrow, Profile}
use Rattle.widl_runs.specs.Ends.{JobEnd, Normal, Returned, Thrown, Talked, Seen}
use Rattle.widl_runs.specs.Worlds.{Bindings, Context}
use Rattle.widl_runs.specs.Actions.{Reply, value_in, object_in, property_in, put_result_in, inner_in, changed_part}
use Rattle.widl_runs.specs.Looks.{cursor_of, sight_of, sight_in}

module _ (objects : List Obj) where
  -- 1. Values

  abbrev pub LiveValue : Value → Type 0
  LiveValue values.Undefined = Unit {0}
  LiveValue values.Null = Unit {0}
  LiveValue (values.Bool b) = Unit {0}
  LiveValue (values.Num x) = Unit {0}
  LiveValue (values.Str text) = Unit {0}
  LiveValue (values.Sym id) = Unit {0}
  LiveValue (values.Obj o) = IsLive objects o

  abbrev pub LiveOption : Option Value → Type 0
  LiveOption v = IfSome v LiveValue

  abbrev pub LiveValues : List Value → Type 0
  LiveValues [] = Unit {0}
  LiveValues (v ∷ vs) = LiveValue v × LiveValues vs

  -- IDL values
  abbrev mutual
    pub LiveTerm : IdlTerm → Type 0
    LiveTerm UndefinedValue = Unit {0}
    LiveTerm NullValue = Unit {0}
    LiveTerm MissingValue = Unit {0}
    LiveTerm (BooleanValue b) = Unit {0}
    LiveTerm (IntegerValue n) = Unit {0}
    LiveTerm (StringValue text) = Unit {0}
    LiveTerm (EnumerationValue n place) = Unit {0}
    LiveTerm (ObjectValue o) = IsLive objects o
    LiveTerm (AnyValue v) = LiveValue v
    LiveTerm (SequenceValue ws) = LiveTerms ws
    LiveTerm (RecordValue entries) = LiveEntries entries
    LiveTerm (DictionaryValue n members) = LiveMembers members
    LiveTerm (PromiseValue o) = IsLive objects o

    pub LiveTerms : IdlTerms → Type 0
    LiveTerms no_values = Unit {0}
    LiveTerms (next_value w ws) = LiveTerm w × LiveTerms ws

    pub LiveEntries : EntryTerms → Type 0
    LiveEntries no_entries = Unit {0}
    LiveEntries (more_entries name w entries) = LiveTerm w × LiveEntries entries

    pub LiveMembers : MemberTerms → Type 0
    LiveMembers no_members = Unit {0}
    LiveMembers (more_members n place w members) = LiveTerm w × LiveMembers members

  abbrev pub LiveTermList : List IdlTerm → Type 0
  LiveTermList [] = Unit {0}
  LiveTermList (w ∷ ws) = LiveTerm w × LiveTermList ws

  -- ends of tasks, and answers
  abbrev pub LiveTaskEnd : TaskEnd → Type 0
  LiveTaskEnd (Gives w) = LiveTerm w
  LiveTaskEnd (Plain v) = LiveValue v
  LiveTaskEnd (Picks overload ws) = LiveTermList ws
  LiveTaskEnd (Throw why) = Unit {0}
  LiveTaskEnd (Rethrow v) = LiveValue v
  LiveTaskEnd (Profile end) = Unit {0}

  -- of an Array Iterator the object is read on
  abbrev pub LiveCursor : CursorState → Type 0
  LiveCursor (cursors.Pairs of kind next) = Unit {0}
  LiveCursor (cursors.Array of next turn) = IsLive objects of

  abbrev pub LiveSight : Sight → Type 0
  LiveSight (KindSight kind) = Unit {0}
  LiveSight (CursorSight state) = IfSome state LiveCursor

  abbrev pub LiveAnswer : AnswerTerm → Type 0
  LiveAnswer BeginAnswer = Unit {0}
  LiveAnswer DoneAnswer = Unit {0}
  LiveAnswer (NormalAnswer v) = LiveValue v
  LiveAnswer (ThrownAnswer v) = LiveValue v
  LiveAnswer (KeysAnswer keys) = Unit {0}
  LiveAnswer (OwnAnswer flags) = Unit {0}
  LiveAnswer (SightAnswer sight) = LiveSight sight

  abbrev pub LiveEnd : JobEnd → Type 0
  LiveEnd (Normal v) = LiveValue v
  LiveEnd (Returned v) = LiveValue v
  LiveEnd (Thrown v) = LiveValue v
  LiveEnd (Talked end) = LiveTaskEnd end
  LiveEnd (Seen answer) = LiveAnswer answer

  -- 2. Properties

  abbrev pub LivePart : Option ObjRef → Type 0
  LivePart part = IfSome part (IsLive objects)

  abbrev pub LiveProp : Prop → Type 0
  LiveProp (props.Plain v flags) = LiveValue v
  LiveProp (props.Accessor getter setter flags) = LivePart getter × LivePart setter

  abbrev pub LiveFound : Option Prop → Type 0
  LiveFound found = IfSome found LiveProp

  abbrev pub LiveProps : List (Key × Prop) → Type 0
  LiveProps [] = Unit {0}
  LiveProps (e ∷ es) = LiveProp e.1 × LiveProps es

  -- an Array Iterator holds the object whose elements it gives; what the other inner parts hold is not read yet
  abbrev pub LiveInner : InnerTerm → Type 0
  LiveInner PlainPart = Unit {0}
  LiveInner ArrayPart = Unit {0}
  LiveInner ErrorPart = Unit {0}
  LiveInner (ScriptPart f) = Unit {0}
  LiveInner (BuiltinPart f) = Unit {0}
  LiveInner (InterfacePart iface slots) = Unit {0}
  LiveInner (PlatformPart slots pairs) = Unit {0}
  LiveInner (SpacePart slots) = Unit {0}
  LiveInner (PairIteratorPart of kind next) = Unit {0}
  LiveInner (ArrayIteratorPart of next turn) = IsLive objects of
  LiveInner (PromisePart state) = Unit {0}

  abbrev pub LiveSeen : Option InnerTerm → Type 0
  LiveSeen inner = IfSome inner LiveInner

  abbrev pub LiveObject : Obj → Type 0
  LiveObject o = LiveProps o.props × LiveInner o.inner

  abbrev pub LiveObjects : List Obj → Type 0
  LiveObjects [] = Unit {0}
  LiveObjects (o ∷ os) = LiveObject o × LiveObjects os

  -- 3. Bindings and contexts

  abbrev pub LiveBindings : Bindings → Type 0
  LiveBindings [] = Unit {0}
  LiveBindings (b ∷ bs) = LiveValue b.1 × LiveBindings bs

  abbrev pub LiveContext : Context → Type 0
  LiveContext c = LiveValue c.this × LiveBindings c.locals

  abbrev pub LiveContexts : List Context → Type 0
  LiveContexts [] = Unit {0}
  LiveContexts (c ∷ cs) = LiveContext c × LiveContexts cs

  -- 4. Replies

  abbrev pub LivePut : Result Put PutFault → Type 0
  LivePut (results.Ok puts.Done) = Unit {0}
  LivePut (results.Ok (puts.Setter setter v)) = IsLive objects setter × LiveValue v
  LivePut (results.Err fault) = Unit {0}

  pub record LiveReply (r : Reply) : Type 0 where
    pub value : LiveValue (value_in r)
    pub object : IsLive objects (object_in r)
    pub property : LiveFound (property_in r)
    pub put : LivePut (put_result_in r)
    pub inner : LiveSeen (inner_in r)

  -- 5. Looks: what they see and what answers show

  live_cursor : (inner : InnerTerm) → LiveInner inner → IfSome (cursor_of inner) LiveCursor
  live_cursor PlainPart l = tt
  live_cursor ArrayPart l = tt
  live_cursor ErrorPart l = tt
  live_cursor (ScriptPart f) l = tt
  live_cursor (BuiltinPart f) l = tt
  live_cursor (InterfacePart iface slots) l = tt
  live_cursor (PlatformPart slots pairs) l = tt
  live_cursor (SpacePart slots) l = tt
  live_cursor (PairIteratorPart of kind next) l = tt
  live_cursor (ArrayIteratorPart of next turn) l = l
  live_cursor (PromisePart state) l = tt

  pub live_sight : (what : Look) (inner : InnerTerm) → LiveInner inner → LiveSight (sight_of what inner)
  live_sight looks.Kind inner l = tt
  live_sight looks.Cursor inner l = live_cursor inner l

  live_cursor_sight : (sight : Sight) → LiveSight sight → IfSome (cursor_in (SightAnswer sight)) LiveCursor
  live_cursor_sight (KindSight kind) l = tt
  live_cursor_sight (CursorSight state) l = l

  pub live_cursor_in : (a : AnswerTerm) → LiveAnswer a → IfSome (cursor_in a) LiveCursor
  live_cursor_in BeginAnswer l = tt
  live_cursor_in DoneAnswer l = tt
  live_cursor_in (NormalAnswer v) l = tt
  live_cursor_in (ThrownAnswer v) l = tt
  live_cursor_in (KeysAnswer keys) l = tt
  live_cursor_in (OwnAnswer flags) l = tt
  live_cursor_in (SightAnswer sight) l = live_cursor_sight sight l

  pub live_sight_in : (what : Look) (a : AnswerTerm) → LiveAnswer a → LiveSight (sight_in what a)
  live_sight_in looks.Kind a l = tt
  live_sight_in looks.Cursor a l = live_cursor_in a l

  -- 6. Changes of an inner part

  -- what a change puts into an object is live: an iterator is only moved on
  abbrev pub LiveChange : ChangeTerm → Type 0
  LiveChange (SetCursor next turn) = Unit {0}

  pub live_changed_part : (change : ChangeTerm) (inner : InnerTerm) → LiveChange change → LiveInner inner → LiveInner (changed_part change inner)
  live_changed_part (SetCursor next turn) PlainPart x l = tt
  live_changed_part (SetCursor next turn) ArrayPart x l = tt
  live_changed_part (SetCursor next turn) ErrorPart x l = tt
  live_changed_part (SetCursor next turn) (ScriptPart f) x l = tt
  live_changed_part (SetCursor next turn) (BuiltinPart f) x l = tt
  live_changed_part (SetCursor next turn) (InterfacePart iface slots) x l = tt
  live_changed_part (SetCursor next turn) (PlatformPart slots pairs) x l = tt
  live_changed_part (SetCursor next turn) (SpacePart slots) x l = tt
  live_changed_part (SetCursor next turn) (PairIteratorPart of kind n) x l = tt
  live_changed_part (SetCursor next turn) (ArrayIteratorPart of n last) x l = l
  live_changed_part (SetCursor next turn) (PromisePart state) x l = tt

-- a sight is of the look that it is asked for
pub shows_look : (what : Look) (a : AnswerTerm) → Shows what (sight_in what a)
shows_look looks.Kind a = tt
shows_look looks.Cursor a = tt

-- what is live among the one objects is live among the others
abbrev pub Grows : List Obj → List Obj → Type 0
Grows objects more = (o : ObjRef) → IsLive objects o → IsLive more o

module _ (objects more : List Obj) (grows : Grows objects more) where
  pub more_value : (v : Value) → LiveValue objects v → LiveValue more v
  more_value values.Undefined l = tt
  more_value values.Null l = tt
  more_value (values.Bool b) l = tt
  more_value (values.Num x) l = tt
  more_value (values.Str text) l = tt
  more_value (values.Sym id) l = tt
  more_value (values.Obj o) l = grows o l

  pub more_part : (part : Option ObjRef) → LivePart objects part → LivePart more part
  more_part None l = tt
  more_part (Some o) l = grows o l

  pub more_prop : (prop : Prop) → LiveProp objects prop → LiveProp more prop
  more_prop (props.Plain v flags) l = more_value v l
  more_prop (props.Accessor getter setter flags) l = (more_part getter l.0, more_part setter l.1)

  more_found : (found : Option Prop) → LiveFound objects found → LiveFound more found
  more_found None l = tt
  more_found (Some prop) l = more_prop prop l

  pub more_props : (entries : List (Key × Prop)) → LiveProps objects entries → LiveProps more entries
  more_props [] l = tt
  more_props (e ∷ es) l = (more_prop e.1 l.0, more_props es l.1)

  pub more_inner : (inner : InnerTerm) → LiveInner objects inner → LiveInner more inner
  more_inner PlainPart l = tt
  more_inner ArrayPart l = tt
  more_inner ErrorPart l = tt
  more_inner (ScriptPart f) l = tt
  more_inner (BuiltinPart f) l = tt
  more_inner (InterfacePart iface slots) l = tt
  more_inner (PlatformPart slots pairs) l = tt
  more_inner (SpacePart slots) l = tt
  more_inner (PairIteratorPart of kind next) l = tt
  more_inner (ArrayIteratorPart of next turn) l = grows of l
  more_inner (PromisePart state) l = tt

  more_seen : (inner : Option InnerTerm) → LiveSeen objects inner → LiveSeen more inner
  more_seen None l = tt
  more_seen (Some inner) l = more_inner inner l

  pub more_objects : (os : List Obj) → LiveObjects objects os → LiveObjects more os
  more_objects [] l = tt
  more_objects (o ∷ os) l = ((more_props o.props l.0.0, more_inner o.inner l.0.1), more_objects os l.1)

  pub more_values : (vs : List Value) → LiveValues objects vs → LiveValues more vs
  more_values [] l = tt
  more_values (v ∷ vs) l = (more_value v l.0, more_values vs l.1)

  pub more_bindings : (bs : Bindings) → LiveBindings objects bs → LiveBindings more bs
  more_bindings [] l = tt
  more_bindings (b ∷ bs) l = (more_value b.1 l.0, more_bindings bs l.1)

  pub more_contexts : (cs : List Context) → LiveContexts objects cs → LiveContexts more cs
  more_contexts [] l = tt
  more_contexts (c ∷ cs) l = ((more_value c.this l.0.0, more_bindings c.locals l.0.1), more_contexts cs l.1)

  pub more_put : (answer : Result Put PutFault) → LivePut objects answer → LivePut more answer
  more_put (results.Ok puts.Done) l = tt
  more_put (results.Ok (puts.Setter setter v)) l = (grows setter l.0, more_value v l.1)
  more_put (results.Err fault) l = tt

  pub more_reply : (r : Reply) → LiveReply objects r → LiveReply more r
  more_reply r l = record {
    value = more_value (value_in r) l.value;
    object = grows (object_in r) l.object;
    property = more_found (property_in r) l.property;
    put = more_put (put_result_in r) l.put;
    inner = more_seen (inner_in r) l.inner;
  }
