-- Asks: what each does that a conversion or a built-in function makes, a line for each; and a conversation in the world, whose asks are done
-- one after another.
-- Source: ECMA-262, Get, Call, [[OwnPropertyKeys]], [[GetOwnProperty]], CreateArrayFromList, OrdinaryObjectCreate, CreateArrayIterator; the lines
-- and the units are this program's own.
use Rattle.std.specs.Prelude.{refl}
use Rattle.widl_dialog.specs.Dialog.{End, Say, Steps}
use Rattle.widl_dialog.specs.Lift.{Ways, lift}
use Rattle.widl_value.specs.declared.value.Value.TheVariants as values
use Rattle.widl_trace.specs.EventTerms.{GetEvent, KeysEvent, OwnEvent}
use Rattle.widl_steps.specs.AskTerms.{AskTerm, GetAsk, CallAsk, UnitAsk, NoteAsk, OwnKeysAsk, OwnAsk, LookAsk, NewAsk, ChangeAsk, AnswerTerm}
use Rattle.widl_steps.specs.Tasks.{TaskEnd}
use Rattle.widl_steps.specs.CallTasks.{CallTask, CallTalk}
use Rattle.widl_runs.specs.Ends.{JobEnd, Talked, Seen, answer_of, task_end_in}
use Rattle.widl_runs.specs.Actions.{Pay, Write, FindInner, FindKeys, FindOwn, ChangePart, Reply, keys_seen, own_seen, sight_seen, plan_of}
use Rattle.widl_runs.specs.Jobs.{Job, Talk, Asked, CallValue, Doing, nothing}
use Rattle.widl_runs.specs.Expressions.{adds}
use Rattle.widl_runs.specs.Members.{reads}

-- 1. The work of an ask

-- what is seen of an object
abbrev pub sees : (Reply → AnswerTerm) → Reply → Doing
sees answer r = End (Seen (answer r))

abbrev pub asks : AskTerm → Doing
-- A property is read: the line, then what stands under the key; a getter is called, of which the object is `this`.
asks (GetAsk o key) = Say (Write (GetEvent o key)) (λ r. reads o key)
-- A function is called, as by a script.
asks (CallAsk f this args) = Steps (CallValue (values.Obj f) this args) End
-- One unit.
asks UnitAsk = Say Pay (λ r. nothing)
-- The line of an event.
asks (NoteAsk event) = Say (Write event) (λ r. nothing)
-- The own keys of an object, and the flags of an own property: the line, then a look.
asks (OwnKeysAsk o) = Say (Write (KeysEvent o)) (λ r. Say (FindKeys o) (sees keys_seen))
asks (OwnAsk o key) = Say (Write (OwnEvent o key)) (λ r. Say (FindOwn o key) (sees own_seen))
-- An object is looked at, or its inner part is changed: that costs nothing.
asks (LookAsk o what) = Say (FindInner o) (sees (sight_seen what))
asks (ChangeAsk o change) = Say (ChangePart o change) (λ r. nothing)
-- A new object: one unit, then the object, whole.
asks (NewAsk new) = Say Pay (λ r. adds (plan_of new))

-- 2. A conversation in the world

-- its tasks and asks are jobs, and the end of an ask's job is made the answer, by the ask: so each answer fits (`answer_of`)
abbrev pub ways : Ways CallTask AskTerm AnswerTerm TaskEnd Job JobEnd
ways = record { task = Talk; ask = Asked; ends = Talked; answer = answer_of; result = task_end_in; back = λ end. refl }

abbrev pub in_world : CallTalk → Doing
in_world talk = lift ways talk
