use Rattle.std.proofs.Common.{ap, sym, ◌∙◌}
use Rattle.widl_idl.specs.declared.callee.Owner.{Owner}
use Rattle.widl_idl.specs.DefinitionTerms.{defs_term}
use Rattle.widl_steps.specs.Operations.{owned_operation}
use Rattle.widl_calls.proofs.operations.operation.Goals as goal

pub returns-in-Space-clause-dialog : goal.returns-in-Space-clause-dialog
returns-in-Space-clause-dialog c steps =
    c.of_namespace.ensures.dialog steps c.in-Space.field-0
    ∙ ap (λ (o : Owner). owned_operation (defs_term c.args.tables.now.defs) steps c.args.callee c.args.args.values o) (sym c.in-Space.is)
