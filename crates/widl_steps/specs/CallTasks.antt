-- The tasks of a call: those of conversions, and a function that is called.
-- Source: ECMA-262, "Built-in Function Objects"; Web IDL, "create an operation function".
use Rattle.std.specs.Prelude.{Bool, List}
use Rattle.widl_value.specs.declared.object.ObjRef.{ObjRef}
use Rattle.widl_value.specs.declared.value.Value.{Value}
use Rattle.widl_store.specs.declared.inner.Builtin.{Builtin}
use Rattle.widl_steps.specs.Tasks.{Task, TalkOf}

pub data CallTask : Type 0 where
  -- a task of a conversion
  Of : Task → CallTask
  -- a function object, what it does, `this`, the arguments, and whether it constructs
  Function : ObjRef → Builtin → Value → List Value → Bool → CallTask

abbrev pub CallTalk : Type 0
CallTalk = TalkOf CallTask
