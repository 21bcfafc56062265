use Rattle.std.proofs.Common.{ap, sym, ◌∙◌}
use Rattle.widl_idl.specs.DefinitionTerms.{defs_term}
use Rattle.widl_store.specs.declared.inner.Builtin.{Builtin}
use Rattle.widl_steps.specs.BuiltCalls.{calls_built_today}
use Rattle.widl_steps.specs.CallRules.{call_rule}
use Rattle.widl_steps.specs.CallTasks.{Function}
use Rattle.widl_calls.proofs.functions.function.Goals as goal

pub returns-in-Callee-clause-dialog : goal.returns-in-Callee-clause-dialog
returns-in-Callee-clause-dialog c steps f construct =
    c.part.ensures.dialog steps f construct
    ∙ ap (λ (what : Builtin). call_rule calls_built_today (defs_term c.args.tables.now.defs) steps (Function f what c.args.this c.args.args.values construct)) (sym c.in-Callee.is)
