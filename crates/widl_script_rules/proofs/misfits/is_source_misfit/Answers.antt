use Rattle.std.proofs.Common.{Bor}
use Rattle.widl_idl.specs.declared.types.IdlType.{IdlType}
use Rattle.widl_idl.specs.DefinitionTerms.{defs_term}
use Rattle.widl_idl.specs.Terms.{type_term}
use Rattle.widl_script_rules.specs.Lookups.{overload_term}
use Rattle.widl_script_rules.proofs.MisfitTests.{mapped_some, source_told}
use Rattle.widl_script_rules.proofs.misfits.is_source_misfit.Goals as goal

pub returns-in-Some : goal.returns-in-Some
returns-in-Some c = λ word known bare.
    source_told (defs_term c.args.list.now) (overload_term c.args.overload) c.args.step.now (record { word = word; source = c.args.used.source.now; number = c.args.used.number }) (type_term c.in-Some.t.now) c.source_fits.result
    (mapped_some (λ (x : Bor IdlType). type_term x.now) c.wanted.result c.in-Some.t _ (c.wanted.ensures word) c.in-Some.is) (c.source_fits.ensures (defs_term c.args.list.now) known bare)
