-- The words of which steps are made: what is done by an answer, by a value, by the end of another task. Each stands for all sets of tasks.
-- Source: ECMA-262, "Algorithm Conventions", IsCallable and GetMethod.
use Rattle.std.specs.Prelude.{ℕ, List}
use Rattle.widl_dialog.specs.Dialog.{End}
use Rattle.widl_value.specs.declared.number.Number.{Number}
use Rattle.widl_value.specs.declared.object.ObjRef.{ObjRef}
use Rattle.widl_value.specs.declared.object.Shape.{Shape}
use Rattle.widl_value.specs.declared.object.Shape.TheVariants as shapes
use Rattle.widl_value.specs.declared.value.Value.{Value}
use Rattle.widl_value.specs.declared.value.Value.TheVariants as values
use Rattle.widl_value.specs.IdlTerms.{IdlTerm}
use Rattle.widl_trace.specs.declared.code.Code.{Code}
use Rattle.widl_trace.specs.declared.code.Code.TheVariants as code
use Rattle.widl_steps.specs.AskTerms.{AnswerTerm, NormalAnswer, ThrownAnswer}
use Rattle.widl_steps.specs.Tasks.{TaskEnd, Gives, Plain, Throw, Rethrow, Profile, TalkOf}

module _ {Job : Type 0} where
  -- 1. Ends

  -- an IDL value, a value of the script, a new TypeError for this reason
  abbrev pub gives : IdlTerm → TalkOf Job
  gives w = End (Gives w)

  abbrev pub returns : Value → TalkOf Job
  returns v = End (Plain v)

  abbrev pub fails : Code → TalkOf Job
  fails reason = End (Throw reason)

  -- the ends of the profile (this program's own): a text is read as a number that isn't whole or is too large; a function is called that no
  -- run does; a built-in function of objects or arrays gets a primitive value for `this`; a conversion or a function isn't built yet
  abbrev pub no_whole_number : TalkOf Job
  no_whole_number = End (Profile 1)

  abbrev pub never_run : TalkOf Job
  never_run = End (Profile 3)

  abbrev pub primitive_this : TalkOf Job
  primitive_this = End (Profile 4)

  abbrev pub not_built : TalkOf Job
  not_built = End (Profile 99)

  -- 2. By an answer

  -- goes on with the value of a normal answer, and throws on what was thrown (ReturnIfAbrupt). Where another kind of answer comes, which never
  -- fits, there is no value.
  abbrev pub normal : (Value → TalkOf Job) → AnswerTerm → TalkOf Job
  normal k (NormalAnswer v) = k v
  normal k (ThrownAnswer v) = End (Rethrow v)
  normal k _ = k values.Undefined

  -- goes on when an ask is done
  abbrev pub done : TalkOf Job → AnswerTerm → TalkOf Job
  done d a = d

  -- 3. By a value

  -- goes on with an object; any other value throws a TypeError
  abbrev pub object : Code → (ObjRef → TalkOf Job) → Value → TalkOf Job
  object reason k (values.Obj o) = k o
  object reason k _ = fails reason

  -- the one for an object, the other for a value that is none
  abbrev pub object_or : (Value → TalkOf Job) → (ObjRef → TalkOf Job) → Value → TalkOf Job
  object_or otherwise k (values.Obj o) = k o
  object_or otherwise k v = otherwise v

  abbrev pub if_callable : Shape → TalkOf Job → TalkOf Job → TalkOf Job
  if_callable shapes.Callable d e = d
  if_callable _ d e = e

  -- the one for an object that can be called, the other for any other value (IsCallable)
  abbrev pub callable_or : TalkOf Job → (ObjRef → TalkOf Job) → Value → TalkOf Job
  callable_or otherwise k (values.Obj o) = if_callable o.shape (k o) otherwise
  callable_or otherwise k _ = otherwise

  -- the one for a method, the other where there is none; a method that can't be called throws a TypeError (GetMethod, after its Get)
  abbrev pub method_or : TalkOf Job → (ObjRef → TalkOf Job) → Value → TalkOf Job
  method_or none k values.Undefined = none
  method_or none k values.Null = none
  method_or none k v = callable_or (fails code.NotCallable) k v

  -- 4. By the end of another task: each goes on with what it names, and ends as the task did where that ended otherwise

  abbrev pub given : (IdlTerm → TalkOf Job) → TaskEnd → TalkOf Job
  given k (Gives w) = k w
  given k e = End e

  abbrev pub returned : (Value → TalkOf Job) → TaskEnd → TalkOf Job
  returned k (Plain v) = k v
  returned k e = End e

  -- ToNumber gives no other value than a Number, ToString no other than a String
  abbrev pub number : (Number → TalkOf Job) → TaskEnd → TalkOf Job
  number k (Plain (values.Num n)) = k n
  number k e = End e

  abbrev pub text : (List ℕ → TalkOf Job) → TaskEnd → TalkOf Job
  text k (Plain (values.Str units)) = k units
  text k e = End e
