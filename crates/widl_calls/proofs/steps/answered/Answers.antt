use Rattle.std.proofs.Common.{◌<◌, subst, sym}
use Rattle.std.specs.Prelude.{IfOk}
use Rattle.widl_idl.specs.DefinitionTerms.{defs_term}
use Rattle.widl_steps.specs.AskTerms.{IsFree}
use Rattle.widl_calls.specs.declared.waits.CallWait.{CallWait}
use Rattle.widl_calls.specs.Frames.{call_patience, call_weight}
use Rattle.widl_calls.specs.Waits.{call_kind_for}
use Rattle.widl_calls.proofs.CallLeading.{less_after, none_left}
use Rattle.widl_calls.proofs.steps.answered.Goals as goal

pub returns-in-Kind-clause-weight : goal.returns-in-Kind-clause-weight
returns-in-Kind-clause-weight c =
    subst (λ (w : CallWait). IfOk c.by_kind.result (λ m. IsFree (call_kind_for w) → call_weight (defs_term c.args.tables.now.defs) m < call_patience (defs_term c.args.tables.now.defs) w))
    (sym c.in-Kind.is) (none_left (defs_term c.args.tables.now.defs) c.by_kind.result c.by_kind.ensures.weight)

pub returns-in-Array-clause-weight : goal.returns-in-Array-clause-weight
returns-in-Array-clause-weight c =
    subst (λ (w : CallWait). IfOk c.array_answered.result (λ m. IsFree (call_kind_for w) → call_weight (defs_term c.args.tables.now.defs) m < call_patience (defs_term c.args.tables.now.defs) w))
    (sym c.in-Array.is) (less_after (defs_term c.args.tables.now.defs) c.in-Array.wait c.array_answered.result c.array_answered.ensures.weight)
