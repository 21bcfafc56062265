use Rattle.std.proofs.Common.{◌≡◌, Some, slice_get, sym, subst, ◌∙◌}
use Rattle.widl_idl.specs.DefinitionTerms.{defs_term}
use Rattle.widl_value.specs.IdlTerms.{idl_terms}
use Rattle.widl_convert.specs.declared.resolution.Resolution.{Resolution}
use Rattle.widl_convert.proofs.Resolving.{by_first}
use Rattle.widl_convert.proofs.resolve.by_first.Goals as goal

pub returns-clause-dialog : goal.returns-clause-dialog
returns-clause-dialog c =
    c.argument.ensures.dialog
    ∙ sym (by_first (defs_term c.args.tables.now.defs) c.args.resolution.value.kept c.args.resolution.value.overload c.first_overload-first.result c.args.value _ (idl_terms c.args.resolution.value.made) c.requires
    (subst (λ (r : Resolution). slice_get r.kept.overloads 0 ≡ Some c.first_overload-first.result) c.deref.ensures c.first_overload-first.ensures))
