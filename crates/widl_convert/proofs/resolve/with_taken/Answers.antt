use Rattle.std.proofs.Common.{◌≡◌, None, ap, sym, ◌∙◌}
use Rattle.widl_idl.specs.DefinitionTerms.{defs_term}
use Rattle.widl_value.specs.IdlTerms.{idl_terms}
use Rattle.widl_convert.specs.declared.resolution.Resolution.{Resolution}
use Rattle.widl_convert.proofs.Resolving.{next_alone, next_several}
use Rattle.widl_convert.proofs.resolve.with_taken.Goals as goal

pub returns-in-Some-clause-dialog : goal.returns-in-Some-clause-dialog
returns-in-Some-clause-dialog c =
    c.argument.ensures.dialog
    ∙ sym (next_alone (defs_term c.args.tables.now.defs) c.args.resolution.value.kept c.args.resolution.value.overload c.in-Some.overload c.args.value _ (idl_terms c.args.resolution.value.made) (ap (λ (r : Resolution). r.overload) (sym c.deref.ensures) ∙ c.in-Some.is))

pub returns-in-None-clause-dialog : goal.returns-in-None-clause-dialog
returns-in-None-clause-dialog c =
    let none : c.args.resolution.value.overload ≡ None = ap (λ (r : Resolution). r.overload) (sym c.deref.ensures) ∙ c.in-None.is in
    c.of_several.ensures.dialog
    ∙ sym (next_several (defs_term c.args.tables.now.defs) c.args.resolution.value.kept c.args.resolution.value.overload c.args.value _ (idl_terms c.args.resolution.value.made) none (c.args.resolution.value.several none))
