-- The words of which steps are made, by cases: what holds of each end, and of what the word goes on with, holds of the word.
use Rattle.std.proofs.Common.{ℕ, Bool, true, false, if◌then◌else◌, List}
use Rattle.widl_dialog.specs.Dialog.{End}
use Rattle.widl_value.specs.declared.number.Number.{Number}
use Rattle.widl_value.specs.declared.object.ObjRef.{ObjRef}
use Rattle.widl_value.specs.declared.object.Shape.{Shape}
use Rattle.widl_value.specs.declared.object.Shape.TheVariants as shapes
use Rattle.widl_value.specs.declared.value.Value.{Value}
use Rattle.widl_value.specs.declared.value.Value.TheVariants as values
use Rattle.widl_value.specs.IdlTerms.{IdlTerm, UndefinedValue, NullValue, MissingValue, BooleanValue, IntegerValue, StringValue, EnumerationValue, ObjectValue, AnyValue, SequenceValue, RecordValue, DictionaryValue, PromiseValue}
use Rattle.widl_trace.specs.declared.code.Code.{Code}
use Rattle.widl_steps.specs.AskTerms.{AnswerTerm, BeginAnswer, DoneAnswer, NormalAnswer, ThrownAnswer, SightAnswer, KeysAnswer, OwnAnswer}
use Rattle.widl_steps.specs.Records.{named}
use Rattle.widl_steps.specs.Tasks.{TaskEnd, Gives, Plain, Picks, Throw, Rethrow, Profile, Talk, TalkOf}
use Rattle.widl_steps.specs.Words.{normal, object, object_or, if_callable, callable_or, method_or, given, returned, number, text}

module _ {Job : Type 0} (Holds : TalkOf Job → Type 0) (an_end : (r : TaskEnd) → Holds (End r)) where
  pub of_if : (b : Bool) (d e : TalkOf Job) → Holds d → Holds e → Holds (if b then d else e)
  of_if true d e x y = x
  of_if false d e x y = y

  pub of_normal : (k : Value → TalkOf Job) → ((v : Value) → Holds (k v)) → (a : AnswerTerm) → Holds (normal k a)
  of_normal k all (NormalAnswer v) = all v
  of_normal k all (ThrownAnswer v) = an_end (Rethrow v)
  of_normal k all BeginAnswer = all values.Undefined
  of_normal k all DoneAnswer = all values.Undefined
  of_normal k all (SightAnswer sight) = all values.Undefined
  of_normal k all (KeysAnswer names) = all values.Undefined
  of_normal k all (OwnAnswer flags) = all values.Undefined

  pub of_object : (c : Code) (k : ObjRef → TalkOf Job) → ((o : ObjRef) → Holds (k o)) → (v : Value) → Holds (object c k v)
  of_object c k all values.Undefined = an_end _
  of_object c k all values.Null = an_end _
  of_object c k all (values.Bool b) = an_end _
  of_object c k all (values.Num n) = an_end _
  of_object c k all (values.Str units) = an_end _
  of_object c k all (values.Sym n) = an_end _
  of_object c k all (values.Obj o) = all o

  pub of_object_or : (d : Value → TalkOf Job) (k : ObjRef → TalkOf Job) → ((v : Value) → Holds (d v)) → ((o : ObjRef) → Holds (k o)) → (v : Value) → Holds (object_or d k v)
  of_object_or d k x all values.Undefined = x _
  of_object_or d k x all values.Null = x _
  of_object_or d k x all (values.Bool b) = x _
  of_object_or d k x all (values.Num n) = x _
  of_object_or d k x all (values.Str units) = x _
  of_object_or d k x all (values.Sym n) = x _
  of_object_or d k x all (values.Obj o) = all o

  of_shape : (s : Shape) (d e : TalkOf Job) → Holds d → Holds e → Holds (if_callable s d e)
  of_shape shapes.Callable d e x y = x
  of_shape shapes.Plain d e x y = y
  of_shape (shapes.Platform n) d e x y = y

  pub of_callable : (d : TalkOf Job) (k : ObjRef → TalkOf Job) → Holds d → ((o : ObjRef) → Holds (k o)) → (v : Value) → Holds (callable_or d k v)
  of_callable d k x all values.Undefined = x
  of_callable d k x all values.Null = x
  of_callable d k x all (values.Bool b) = x
  of_callable d k x all (values.Num n) = x
  of_callable d k x all (values.Str units) = x
  of_callable d k x all (values.Sym n) = x
  of_callable d k x all (values.Obj o) = of_shape o.shape (k o) d (all o) x

  pub of_method : (d : TalkOf Job) (k : ObjRef → TalkOf Job) → Holds d → ((o : ObjRef) → Holds (k o)) → (v : Value) → Holds (method_or d k v)
  of_method d k x all values.Undefined = x
  of_method d k x all values.Null = x
  of_method d k x all (values.Bool b) = an_end _
  of_method d k x all (values.Num n) = an_end _
  of_method d k x all (values.Str units) = an_end _
  of_method d k x all (values.Sym n) = an_end _
  of_method d k x all (values.Obj o) = of_shape o.shape (k o) _ (all o) (an_end _)

  pub of_given : (k : IdlTerm → TalkOf Job) → ((x : IdlTerm) → Holds (k x)) → (r : TaskEnd) → Holds (given k r)
  of_given k all (Gives w) = all w
  of_given k all (Plain v) = an_end _
  of_given k all (Picks e ws) = an_end _
  of_given k all (Throw c) = an_end _
  of_given k all (Rethrow v) = an_end _
  of_given k all (Profile n) = an_end _

  pub of_returned : (k : Value → TalkOf Job) → ((x : Value) → Holds (k x)) → (r : TaskEnd) → Holds (returned k r)
  of_returned k all (Gives w) = an_end _
  of_returned k all (Plain v) = all v
  of_returned k all (Picks e ws) = an_end _
  of_returned k all (Throw c) = an_end _
  of_returned k all (Rethrow v) = an_end _
  of_returned k all (Profile n) = an_end _

  pub of_number : (k : Number → TalkOf Job) → ((x : Number) → Holds (k x)) → (r : TaskEnd) → Holds (number k r)
  of_number k all (Plain values.Undefined) = an_end _
  of_number k all (Plain values.Null) = an_end _
  of_number k all (Plain (values.Bool b)) = an_end _
  of_number k all (Plain (values.Num n)) = all n
  of_number k all (Plain (values.Str units)) = an_end _
  of_number k all (Plain (values.Sym n)) = an_end _
  of_number k all (Plain (values.Obj o)) = an_end _
  of_number k all (Gives w) = an_end _
  of_number k all (Picks e ws) = an_end _
  of_number k all (Throw c) = an_end _
  of_number k all (Rethrow v) = an_end _
  of_number k all (Profile n) = an_end _

  pub of_text : (k : List ℕ → TalkOf Job) → ((x : List ℕ) → Holds (k x)) → (r : TaskEnd) → Holds (text k r)
  of_text k all (Plain values.Undefined) = an_end _
  of_text k all (Plain values.Null) = an_end _
  of_text k all (Plain (values.Bool b)) = an_end _
  of_text k all (Plain (values.Num n)) = an_end _
  of_text k all (Plain (values.Str units)) = all units
  of_text k all (Plain (values.Sym n)) = an_end _
  of_text k all (Plain (values.Obj o)) = an_end _
  of_text k all (Gives w) = an_end _
  of_text k all (Picks e ws) = an_end _
  of_text k all (Throw c) = an_end _
  of_text k all (Rethrow v) = an_end _
  of_text k all (Profile n) = an_end _

pub of_named : (Holds : Talk → Type 0) → ((r : TaskEnd) → Holds (End r)) → (k : List ℕ → Talk) → ((name : List ℕ) → Holds (k name)) → (r : TaskEnd) → Holds (named k r)
of_named Holds an_end k all (Gives (StringValue name)) = all name
of_named Holds an_end k all (Gives UndefinedValue) = an_end _
of_named Holds an_end k all (Gives NullValue) = an_end _
of_named Holds an_end k all (Gives MissingValue) = an_end _
of_named Holds an_end k all (Gives (BooleanValue b)) = an_end _
of_named Holds an_end k all (Gives (IntegerValue n)) = an_end _
of_named Holds an_end k all (Gives (EnumerationValue n place)) = an_end _
of_named Holds an_end k all (Gives (ObjectValue o)) = an_end _
of_named Holds an_end k all (Gives (AnyValue v)) = an_end _
of_named Holds an_end k all (Gives (SequenceValue _)) = an_end _
of_named Holds an_end k all (Gives (RecordValue _)) = an_end _
of_named Holds an_end k all (Gives (DictionaryValue n _)) = an_end _
of_named Holds an_end k all (Gives (PromiseValue o)) = an_end _
of_named Holds an_end k all (Plain v) = an_end _
of_named Holds an_end k all (Picks e ws) = an_end _
of_named Holds an_end k all (Throw c) = an_end _
of_named Holds an_end k all (Rethrow v) = an_end _
of_named Holds an_end k all (Profile n) = an_end _
