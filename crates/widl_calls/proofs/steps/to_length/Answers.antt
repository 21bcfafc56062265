use Rattle.std.proofs.Common.{subst}
use Rattle.std.specs.Prelude.{IfOk}
use Rattle.widl_dialog.specs.Rename.{rename}
use Rattle.widl_idl.specs.DefinitionTerms.{defs_term}
use Rattle.widl_steps.specs.Tasks.{Talk}
use Rattle.widl_steps.specs.CallTasks.{Of}
use Rattle.widl_steps.specs.Operations.{StepsOf}
use Rattle.widl_calls.specs.Frames.{CallLeads, call_dialog}
use Rattle.widl_calls.proofs.steps.to_length.Goals as goal

pub returns-clause-leads : goal.returns-clause-leads
returns-clause-leads c =
    subst (λ (d : Talk). IfOk c.begins.result (λ m. (steps : StepsOf) → CallLeads (defs_term c.args.tables.now.defs) steps (rename Of d) (call_dialog (defs_term c.args.tables.now.defs) steps m)))
    (c.in_ok-start_scalar.ensures.rest (defs_term c.args.tables.now.defs)) c.begins.ensures.leads
