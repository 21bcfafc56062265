-- How jobs end, and what the end of an ask's work answers.
-- Source: ECMA-262, "The Completion Record Specification Type".
use Rattle.std.specs.Prelude.{ℕ}
use Rattle.widl_value.specs.declared.object.ObjRef.{ObjRef}
use Rattle.widl_value.specs.declared.object.Shape.{Shape}
use Rattle.widl_value.specs.declared.value.Value.{Value}
use Rattle.widl_value.specs.declared.value.Value.TheVariants as values
use Rattle.widl_steps.specs.AskTerms.{AskTerm, AnswerTerm, BeginAnswer, DoneAnswer, NormalAnswer, ThrownAnswer, KeysAnswer, OwnAnswer, SightAnswer, AskKind, OfGet, OfCall, OfUnit, OfNote, OfOwnKeys, OfOwn, OfLook, OfNew, OfChange, kind_of}
use Rattle.widl_steps.specs.Records.{flags_in, keys_in}
use Rattle.widl_steps.specs.Tasks.{TaskEnd, Plain}
use Rattle.widl_runs.specs.Looks.{sight_in}

pub data JobEnd : Type 0 where
  -- a part of a script ends with a value, by a `return` with a value, by a value that was thrown
  Normal : Value → JobEnd
  Returned : Value → JobEnd
  Thrown : Value → JobEnd
  -- a task of a conversation has ended
  Talked : TaskEnd → JobEnd
  -- a look at an object has shown this
  Seen : AnswerTerm → JobEnd

-- 1. What is in an end. No other end comes than the job has; the last case of each word is only there so that each end has one

abbrev pub task_end_in : JobEnd → TaskEnd
task_end_in (Talked end) = end
task_end_in _ = Plain values.Undefined

abbrev pub seen_in : JobEnd → AnswerTerm
seen_in (Seen answer) = answer
seen_in _ = BeginAnswer

abbrev pub number_in : Value → ℕ
number_in (values.Obj object) = object.id
number_in _ = 0

-- the number of an object that was made
abbrev pub new_number_in : JobEnd → ℕ
new_number_in (Normal v) = number_in v
new_number_in _ = 0

-- 2. The answer of an ask, by the ask's kind and the end of its work

-- a value that was given or thrown
abbrev pub completion_answer : JobEnd → AnswerTerm
completion_answer (Normal v) = NormalAnswer v
completion_answer (Thrown v) = ThrownAnswer v
completion_answer _ = NormalAnswer values.Undefined

-- an object that was made, which has the shape of what was asked for
abbrev pub shaped_object : Shape → JobEnd → ObjRef
shaped_object shape end = record { id = new_number_in end; shape = shape }

abbrev pub answer_by : AskKind → JobEnd → AnswerTerm
answer_by OfGet end = completion_answer end
answer_by OfCall end = completion_answer end
answer_by OfUnit end = DoneAnswer
answer_by OfNote end = DoneAnswer
answer_by OfOwnKeys end = KeysAnswer (keys_in (seen_in end))
answer_by OfOwn end = OwnAnswer (flags_in (seen_in end))
answer_by (OfLook what) end = SightAnswer (sight_in what (seen_in end))
answer_by (OfNew shape) end = NormalAnswer (values.Obj (shaped_object shape end))
answer_by OfChange end = DoneAnswer

abbrev pub answer_of : AskTerm → JobEnd → AnswerTerm
answer_of ask end = answer_by (kind_of ask) end
