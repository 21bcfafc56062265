-- For proofs and contracts alone; no step names these words. What the functions of arrays still do after an answer, and of which kind it is.
use Rattle.std.specs.Prelude.{ℕ, ◌+◌, true, false, codes}
use Rattle.widl_dialog.specs.Dialog.{End, Say}
use Rattle.widl_text.specs.declared.key.Key.TheVariants as keys
use Rattle.widl_value.specs.declared.object.Shape.TheVariants as shapes
use Rattle.widl_value.specs.declared.value.Value.TheVariants as values
use Rattle.widl_steps.specs.declared.ask.Look.TheVariants as looks
use Rattle.widl_steps.specs.AskTerms.{AskKind, OfGet, OfLook, OfNew, OfChange, GetAsk, AnswerTerm}
use Rattle.widl_steps.specs.Words.{done, normal, returns}
use Rattle.widl_steps.specs.ArrayFunctions.{by_cursor, cursor_in, element_read, iterator_result, length_read, read_in_turn}
use Rattle.widl_steps.specs.CallTasks.{CallTalk}
use Rattle.widl_convert.specs.Frames.{end_of}
use Rattle.widl_convert.specs.Loads.{given_load}
use Rattle.widl_calls.specs.declared.array_turns.ArrayTurn.{ArrayTurn}
use Rattle.widl_calls.specs.declared.array_turns.ArrayWait.{ArrayWait}
use Rattle.widl_calls.specs.declared.array_turns.ArrayWait.TheVariants as waits

abbrev pub array_kind_for : ArrayWait → AskKind
array_kind_for waits.NewIterator = OfNew shapes.Plain
array_kind_for (waits.Cursor iterator) = OfLook looks.Cursor
array_kind_for (waits.Begun t) = OfChange
array_kind_for (waits.Length t) = OfGet
array_kind_for (waits.Element t) = OfGet
array_kind_for (waits.Given v) = OfChange
array_kind_for waits.AtEnd = OfChange
array_kind_for (waits.Threw r) = OfChange
array_kind_for waits.NewResult = OfNew shapes.Plain

-- a turn reads the length first
abbrev pub with_turn : ArrayTurn → CallTalk
with_turn t = Say (GetAsk t.of (keys.Name (codes "length"))) (read_in_turn t.iterator t.next (length_read t.iterator t.of t.next))

abbrev pub array_after : ArrayWait → AnswerTerm → CallTalk
array_after waits.NewIterator = normal returns
array_after (waits.Cursor iterator) = λ a. by_cursor iterator (cursor_in a)
array_after (waits.Begun t) = done (with_turn t)
array_after (waits.Length t) = read_in_turn t.iterator t.next (length_read t.iterator t.of t.next)
array_after (waits.Element t) = read_in_turn t.iterator t.next (element_read t.iterator t.next)
array_after (waits.Given v) = done (iterator_result v.value false)
array_after waits.AtEnd = done (iterator_result values.Undefined true)
array_after (waits.Threw r) = done (End (end_of r.value))
array_after waits.NewResult = normal returns

-- what a wait does after the answer to an ask that takes no charge: cursors take none
abbrev pub moved_load : ℕ
moved_load = 1

abbrev pub cursor_load : ℕ
cursor_load = 2

abbrev pub array_patience : ArrayWait → ℕ
array_patience waits.NewIterator = 0
array_patience (waits.Cursor iterator) = cursor_load
array_patience (waits.Begun t) = moved_load
array_patience (waits.Length t) = 0
array_patience (waits.Element t) = 0
array_patience (waits.Given v) = moved_load
array_patience waits.AtEnd = moved_load
array_patience (waits.Threw r) = moved_load + given_load (end_of r.value)
array_patience waits.NewResult = 0
