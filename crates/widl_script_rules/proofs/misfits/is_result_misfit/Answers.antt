use Rattle.std.proofs.Common.{Bor}
use Rattle.widl_idl.specs.declared.callback.Callback.{Callback}
use Rattle.widl_idl.specs.DefinitionTerms.{callback_term, defs_term}
use Rattle.widl_script_rules.specs.Lookups.{overload_term}
use Rattle.widl_script_rules.proofs.MisfitTests.{mapped_some, result_told}
use Rattle.widl_script_rules.proofs.misfits.is_result_misfit.Goals as goal

pub returns-in-Some : goal.returns-in-Some
returns-in-Some c = λ bare.
    result_told (defs_term c.args.list.now) (overload_term c.args.overload) c.args.call.now (callback_term c.in-Some.callback.now) c.type_fits.result
    (mapped_some (λ (x : Bor Callback). callback_term x.now) c.callback_called.result c.in-Some.callback _ c.callback_called.ensures c.in-Some.is) (c.type_fits.ensures (defs_term c.args.list.now) bare)
