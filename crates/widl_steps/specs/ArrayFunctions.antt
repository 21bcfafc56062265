-- The functions of Array.prototype and of iterators that make an array iterable.
-- Source: ECMA-262, Array.prototype.values, CreateArrayIterator, %ArrayIteratorPrototype%.next, %IteratorPrototype%[@@iterator],
-- CreateIterResultObject.
use Rattle.std.specs.Prelude.{ℕ, ◌+◌, Bool, true, false, if◌then◌else◌, nat_lt, [], ◌∷◌, Option, None, Some, codes, decimal}
use Rattle.widl_dialog.specs.Dialog.{End, Say, Steps}
use Rattle.widl_text.specs.declared.key.Key.TheVariants as keys
use Rattle.widl_value.specs.declared.object.ObjRef.{ObjRef}
use Rattle.widl_value.specs.declared.value.Value.{Value}
use Rattle.widl_value.specs.declared.value.Value.TheVariants as values
use Rattle.widl_scalar.specs.Primitives.{length_of}
use Rattle.widl_store.specs.declared.inner.Turn.{Turn}
use Rattle.widl_store.specs.declared.inner.Turn.TheVariants.{Idle, Running, Ended}
use Rattle.widl_trace.specs.declared.code.Code.TheVariants as code
use Rattle.widl_steps.specs.declared.answer.CursorState.{CursorState}
use Rattle.widl_steps.specs.declared.answer.CursorState.TheVariants as cursors
use Rattle.widl_steps.specs.declared.want.Want.TheVariants as wants
use Rattle.widl_steps.specs.declared.ask.Look.TheVariants as looks
use Rattle.widl_steps.specs.AskTerms.{GetAsk, NewAsk, NewObject, NewArrayIterator, LookAsk, ChangeAsk, SetCursor, AnswerTerm, ThrownAnswer, CursorSight, SightAnswer}
use Rattle.widl_steps.specs.Tasks.{Scalar, TaskEnd, Throw, Rethrow}
use Rattle.widl_steps.specs.Words.{returns, fails, primitive_this, done, normal, object, number}
use Rattle.widl_steps.specs.CallTasks.{Of, CallTalk}

-- 1. Array.prototype.values

abbrev pub array_values : Value → CallTalk
array_values values.Undefined = fails code.This
array_values values.Null = fails code.This
array_values (values.Obj o) = Say (NewAsk (NewArrayIterator o)) (normal returns)
array_values _ = primitive_this

-- 2. %ArrayIteratorPrototype%.next

abbrev pub iterator_result : Value → Bool → CallTalk
iterator_result v is_done = Say (NewAsk (NewObject ((keys.Name (codes "value"), v) ∷ (keys.Name (codes "done"), values.Bool is_done) ∷ []))) (normal returns)

-- What throws in a turn ends the iterator first: its steps are those of a generator, which is completed by an exception.
abbrev pub ends_iterator : ObjRef → ℕ → CallTalk → CallTalk
ends_iterator iterator next d = Say (ChangeAsk iterator (SetCursor next Ended)) (done d)

abbrev pub read_in_turn : ObjRef → ℕ → (Value → CallTalk) → AnswerTerm → CallTalk
read_in_turn iterator next k (ThrownAnswer v) = ends_iterator iterator next (End (Rethrow v))
read_in_turn iterator next k a = normal k a

abbrev pub given_in_turn : ObjRef → ℕ → (TaskEnd → CallTalk) → TaskEnd → CallTalk
given_in_turn iterator next k (Throw reason) = ends_iterator iterator next (End (Throw reason))
given_in_turn iterator next k (Rethrow v) = ends_iterator iterator next (End (Rethrow v))
given_in_turn iterator next k e = k e

abbrev pub element_read : ObjRef → ℕ → Value → CallTalk
element_read iterator next v = Say (ChangeAsk iterator (SetCursor (next + 1) Idle)) (done (iterator_result v false))

-- The key is the index as a Number's text: its decimal digits. At the end of the array, or past it, the iterator is ended.
abbrev pub with_length : ObjRef → ObjRef → ℕ → ℕ → CallTalk
with_length iterator of next count =
    if nat_lt next count
    then Say (GetAsk of (keys.Name (decimal next))) (read_in_turn iterator next (element_read iterator next))
    else ends_iterator iterator next (iterator_result values.Undefined true)

abbrev pub length_read : ObjRef → ObjRef → ℕ → Value → CallTalk
length_read iterator of next v = Steps (Of (Scalar wants.Length v)) (given_in_turn iterator next (number (λ n. with_length iterator of next (length_of n))))

-- a turn, for the element of this index
abbrev pub turn : ObjRef → ObjRef → ℕ → CallTalk
turn iterator of next = Say (ChangeAsk iterator (SetCursor next Running)) (done (Say (GetAsk of (keys.Name (codes "length"))) (read_in_turn iterator next (length_read iterator of next))))

abbrev pub by_turn : ObjRef → ObjRef → ℕ → Turn → CallTalk
by_turn iterator of next Idle = turn iterator of next
by_turn iterator of next Running = fails code.Running
by_turn iterator of next Ended = iterator_result values.Undefined true

-- no other answer fits
abbrev pub cursor_in : AnswerTerm → Option CursorState
cursor_in (SightAnswer (CursorSight state)) = state
cursor_in _ = None

abbrev pub by_cursor : ObjRef → Option CursorState → CallTalk
by_cursor iterator (Some (cursors.Array of next turn)) = by_turn iterator of next turn
by_cursor iterator (Some (cursors.Pairs of kind next)) = fails code.This
by_cursor iterator None = fails code.This

abbrev pub array_iterator_next : Value → CallTalk
array_iterator_next = object code.This (λ iterator. Say (LookAsk iterator looks.Cursor) (λ a. by_cursor iterator (cursor_in a)))

-- 3. %IteratorPrototype%[@@iterator]

abbrev pub iterator_itself : Value → CallTalk
iterator_itself this = returns this
