-- Events as plain terms, without the places in memory of their IDL values (this program's own).
use Rattle.std.specs.Prelude.{ℕ, ◌<◌, List, Option}
use Rattle.widl_text.specs.declared.key.Key.{Key}
use Rattle.widl_idl.specs.declared.callee.Callee.{Callee}
use Rattle.widl_value.specs.declared.object.ObjRef.{ObjRef}
use Rattle.widl_value.specs.declared.value.Value.{Value}
use Rattle.widl_value.specs.IdlTerms.{IdlTerm, idl_terms}
use Rattle.widl_trace.specs.declared.code.Code.{Code}
use Rattle.widl_trace.specs.declared.event.Event.{Event}
use Rattle.widl_trace.specs.declared.event.Event.TheVariants as events

pub data EventTerm : Type 0 where
  -- an object is asked for the property of a key, for its own keys, for an own property
  GetEvent : ObjRef → Key → EventTerm
  KeysEvent : ObjRef → EventTerm
  OwnEvent : ObjRef → Key → EventTerm
  -- a function is called on a value, or constructs, with arguments
  CallEvent : ObjRef → Value → List Value → EventTerm
  NewEvent : ObjRef → List Value → EventTerm
  ReturnEvent : Value → EventTerm
  ThrowEvent : Value → EventTerm
  -- what a callee does begins, of the overload if it has overloads, with these values
  OperationEvent : Callee → Option ℕ → List IdlTerm → EventTerm
  ErrorEvent : ObjRef → Code → EventTerm
  -- a promise gets a value, or a reason, or waits for an object by its method
  FulfilledEvent : ObjRef → Value → EventTerm
  RejectedEvent : ObjRef → Value → EventTerm
  WaitsEvent : ObjRef → ObjRef → ObjRef → EventTerm
  ShowEvent : Value → EventTerm
  JobEvent : ObjRef → ObjRef → ObjRef → EventTerm
  DoneEvent : EventTerm
  UncaughtEvent : Value → EventTerm
  BudgetStop : EventTerm
  DepthStop : EventTerm
  ProfileStop : ℕ → EventTerm

-- the term of an event
abbrev pub event_term : Event → EventTerm
event_term (events.Get obj key) = GetEvent obj key
event_term (events.Keys obj) = KeysEvent obj
event_term (events.Own obj key) = OwnEvent obj key
event_term (events.Call f this args) = CallEvent f this args
event_term (events.New f args) = NewEvent f args
event_term (events.Ret value) = ReturnEvent value
event_term (events.Thr value) = ThrowEvent value
event_term (events.Op callee overload values) = OperationEvent callee overload (idl_terms values)
event_term (events.Error obj code) = ErrorEvent obj code
event_term (events.Fulfilled promise value) = FulfilledEvent promise value
event_term (events.Rejected promise value) = RejectedEvent promise value
event_term (events.Waits promise on method) = WaitsEvent promise on method
event_term (events.Show value) = ShowEvent value
event_term (events.Job promise on method) = JobEvent promise on method
event_term events.Done = DoneEvent
event_term (events.Uncaught value) = UncaughtEvent value
event_term events.StopBudget = BudgetStop
event_term events.StopDepth = DepthStop
event_term (events.StopProfile end) = ProfileStop end

-- the stops of a run, whose numbers are of one byte
abbrev pub IsStop : EventTerm → Type 0
IsStop BudgetStop = Unit {0}
IsStop DepthStop = Unit {0}
IsStop (ProfileStop end) = end < 256
IsStop event = ⊥
