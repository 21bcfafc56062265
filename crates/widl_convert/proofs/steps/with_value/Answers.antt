use Rattle.std.proofs.Common.{sym, ap}
use Rattle.widl_idl.specs.DefinitionTerms.{defs_term}
use Rattle.widl_convert.specs.declared.waits.ValueWait.{ValueWait}
use Rattle.widl_convert.specs.Frames.{property_to, value_to}
use Rattle.widl_convert.proofs.Suspending.{over_list}
use Rattle.widl_convert.proofs.steps.with_value.Goals as goal

pub returns-in-Property : goal.returns-in-Property
returns-in-Property c =
    over_list (defs_term c.args.tables.now.defs) (property_to c.in-Property.property c.args.value) (value_to (defs_term c.args.tables.now.defs) c.args.wait c.args.value) c.with_value-in-Property.result
    (ap (λ (w : ValueWait). value_to (defs_term c.args.tables.now.defs) w c.args.value) (sym c.in-Property.is)) c.with_value-in-Property.ensures
