-- Asks and answers as plain terms, without the places in memory of the IDL values in them; and which answers an ask may get.
-- Source: ECMA-262, the internal methods of objects; units and events are this program's own.
use Rattle.std.specs.Prelude.{◌≡◌, ℕ, List, Option}
use Rattle.widl_text.specs.declared.key.Key.{Key}
use Rattle.widl_value.specs.declared.flags.Flags.{Flags}
use Rattle.widl_value.specs.declared.object.ObjRef.{ObjRef}
use Rattle.widl_value.specs.declared.object.Shape.{Shape}
use Rattle.widl_value.specs.declared.object.Shape.TheVariants as shapes
use Rattle.widl_value.specs.declared.value.Value.{Value}
use Rattle.widl_value.specs.declared.value.Value.TheVariants as values
use Rattle.widl_store.specs.declared.inner.Turn.{Turn}
use Rattle.widl_trace.specs.EventTerms.{EventTerm, event_term}
use Rattle.widl_steps.specs.declared.answer.Answer.{Answer}
use Rattle.widl_steps.specs.declared.answer.Answer.TheVariants as answers
use Rattle.widl_steps.specs.declared.answer.CursorState.{CursorState}
use Rattle.widl_steps.specs.declared.answer.KindName.{KindName}
use Rattle.widl_steps.specs.declared.ask.Ask.{Ask}
use Rattle.widl_steps.specs.declared.ask.Ask.TheVariants as asks
use Rattle.widl_steps.specs.declared.ask.Change.{Change}
use Rattle.widl_steps.specs.declared.ask.Change.TheVariants as changes
use Rattle.widl_steps.specs.declared.ask.Look.{Look}
use Rattle.widl_steps.specs.declared.ask.Look.TheVariants as looks
use Rattle.widl_steps.specs.declared.ask.New.{New}
use Rattle.widl_steps.specs.declared.ask.New.TheVariants as news

-- what is made: an array of these elements, an object with these properties, an iterator over the elements of an object
pub data NewTerm : Type 0 where
  NewArray : List Value → NewTerm
  NewObject : List (Key × Value) → NewTerm
  NewArrayIterator : ObjRef → NewTerm

-- what is changed in an object: the index of an iterator's next element, and whether a call of it is under way
pub data ChangeTerm : Type 0 where
  SetCursor : ℕ → Turn → ChangeTerm

pub data AskTerm : Type 0 where
  GetAsk : ObjRef → Key → AskTerm
  -- a function, `this`, the arguments
  CallAsk : ObjRef → Value → List Value → AskTerm
  UnitAsk : AskTerm
  NoteAsk : EventTerm → AskTerm
  OwnKeysAsk : ObjRef → AskTerm
  OwnAsk : ObjRef → Key → AskTerm
  -- an object is looked at, made, changed
  LookAsk : ObjRef → Look → AskTerm
  NewAsk : NewTerm → AskTerm
  ChangeAsk : ObjRef → ChangeTerm → AskTerm

-- what a look shows
pub data Sight : Type 0 where
  KindSight : KindName → Sight
  CursorSight : Option CursorState → Sight

pub data AnswerTerm : Type 0 where
  BeginAnswer : AnswerTerm
  DoneAnswer : AnswerTerm
  NormalAnswer : Value → AnswerTerm
  ThrownAnswer : Value → AnswerTerm
  KeysAnswer : List Key → AnswerTerm
  OwnAnswer : Option Flags → AnswerTerm
  SightAnswer : Sight → AnswerTerm

-- 1. The term of an ask, and that of an answer

abbrev pub new_term : New → NewTerm
new_term (news.Array items) = NewArray items
new_term (news.Object entries) = NewObject entries
new_term (news.ArrayIterator obj) = NewArrayIterator obj

abbrev pub change_term : Change → ChangeTerm
change_term (changes.Cursor next turn) = SetCursor next turn

abbrev pub ask_term : Ask → AskTerm
ask_term (asks.Get obj key) = GetAsk obj key
ask_term (asks.Call f this args) = CallAsk f this args
ask_term (asks.Kind obj) = LookAsk obj looks.Kind
ask_term asks.Unit = UnitAsk
ask_term (asks.Note event) = NoteAsk (event_term event)
ask_term (asks.OwnKeys obj) = OwnKeysAsk obj
ask_term (asks.Own obj key) = OwnAsk obj key
ask_term (asks.NewArray items) = NewAsk (NewArray items)
ask_term (asks.NewObject entries) = NewAsk (NewObject entries)
ask_term (asks.NewArrayIterator obj) = NewAsk (NewArrayIterator obj)
ask_term (asks.Cursor obj) = LookAsk obj looks.Cursor
ask_term (asks.SetCursor obj next turn) = ChangeAsk obj (SetCursor next turn)

abbrev pub answer_term : Answer → AnswerTerm
answer_term answers.Begin = BeginAnswer
answer_term answers.Done = DoneAnswer
answer_term (answers.Normal value) = NormalAnswer value
answer_term (answers.Thrown value) = ThrownAnswer value
answer_term (answers.Kind kind) = SightAnswer (KindSight kind)
answer_term (answers.Keys keys) = KeysAnswer keys
answer_term (answers.Own flags) = OwnAnswer flags
answer_term (answers.Cursor state) = SightAnswer (CursorSight state)

-- 2. The kinds of asks

pub data AskKind : Type 0 where
  OfGet : AskKind
  OfCall : AskKind
  OfUnit : AskKind
  OfNote : AskKind
  OfOwnKeys : AskKind
  OfOwn : AskKind
  OfLook : Look → AskKind
  -- by the shape of what is made
  OfNew : Shape → AskKind
  OfChange : AskKind

-- whether what is made can be called, and whether it is a platform object: neither is made yet
abbrev pub shape_of : NewTerm → Shape
shape_of (NewArray items) = shapes.Plain
shape_of (NewObject entries) = shapes.Plain
shape_of (NewArrayIterator obj) = shapes.Plain

abbrev pub kind_of : AskTerm → AskKind
kind_of (GetAsk obj key) = OfGet
kind_of (CallAsk f this args) = OfCall
kind_of UnitAsk = OfUnit
kind_of (NoteAsk event) = OfNote
kind_of (OwnKeysAsk obj) = OfOwnKeys
kind_of (OwnAsk obj key) = OfOwn
kind_of (LookAsk obj what) = OfLook what
kind_of (NewAsk new) = OfNew (shape_of new)
kind_of (ChangeAsk obj change) = OfChange

-- A look and a change take no units of the budget. Units are taken for the others: for the line of a read, a call, an event, own keys or an
-- own property, for an object that is made.
abbrev pub IsFree : AskKind → Type 0
IsFree OfGet = ⊥
IsFree OfCall = ⊥
IsFree OfUnit = ⊥
IsFree OfNote = ⊥
IsFree OfOwnKeys = ⊥
IsFree OfOwn = ⊥
IsFree (OfLook what) = Unit {0}
IsFree (OfNew shape) = ⊥
IsFree OfChange = Unit {0}

-- 3. Which answers fit

-- a value, given or thrown
abbrev pub IsCompletion : AnswerTerm → Type 0
IsCompletion (NormalAnswer v) = Unit {0}
IsCompletion (ThrownAnswer v) = Unit {0}
IsCompletion _ = ⊥

abbrev pub IsDone : AnswerTerm → Type 0
IsDone DoneAnswer = Unit {0}
IsDone _ = ⊥

abbrev pub AreKeys : AnswerTerm → Type 0
AreKeys (KeysAnswer keys) = Unit {0}
AreKeys _ = ⊥

abbrev pub IsOwn : AnswerTerm → Type 0
IsOwn (OwnAnswer flags) = Unit {0}
IsOwn _ = ⊥

-- the sight is of the look that was asked for
abbrev pub Shows : Look → Sight → Type 0
Shows looks.Kind (KindSight kind) = Unit {0}
Shows looks.Cursor (CursorSight state) = Unit {0}
Shows _ _ = ⊥

abbrev pub IsSight : Look → AnswerTerm → Type 0
IsSight what (SightAnswer sight) = Shows what sight
IsSight what _ = ⊥

-- a new object has the shape of what is made
abbrev pub IsShaped : Shape → Value → Type 0
IsShaped shape (values.Obj o) = o.shape ≡ shape
IsShaped shape _ = ⊥

abbrev pub IsNewObject : Shape → AnswerTerm → Type 0
IsNewObject shape (NormalAnswer v) = IsShaped shape v
IsNewObject shape _ = ⊥

-- what an ask may be answered depends on its kind alone
abbrev pub IsWanted : AskKind → AnswerTerm → Type 0
IsWanted OfGet a = IsCompletion a
IsWanted OfCall a = IsCompletion a
IsWanted OfUnit a = IsDone a
IsWanted OfNote a = IsDone a
IsWanted OfOwnKeys a = AreKeys a
IsWanted OfOwn a = IsOwn a
IsWanted (OfLook what) a = IsSight what a
IsWanted (OfNew shape) a = IsNewObject shape a
IsWanted OfChange a = IsDone a

abbrev pub Fits : AskTerm → AnswerTerm → Type 0
Fits ask a = IsWanted (kind_of ask) a
