use Rattle.std.proofs.Common.{◌≡◌, subst, sym}
use Rattle.std.specs.Prelude.{IfErr, IfOk}
use Rattle.widl_idl.specs.declared.defs.Defs.{Defs}
use Rattle.widl_idl.specs.DefinitionTerms.{defs_term}
use Rattle.widl_fits.specs.Hierarchies.{IsHierarchy}
use Rattle.widl_fits.proofs.MergedHierarchies.{merged_hierarchy}
use Rattle.widl_overload.specs.rules.Dictionaries.{dictionary_terms}
use Rattle.widl_script.specs.Outcomes.{IsRefusal}
use Rattle.widl_script.specs.Scripts.{IsReadAs}
use Rattle.widl_script.proofs.WholeOutcome.{complete_of, exact_of}
use Rattle.widl_script.proofs.read.read_script.Goals as goal

pub read_over-requires-clause-hierarchy : goal.read_over-requires-clause-hierarchy
read_over-requires-clause-hierarchy c =
    let set = c.args.list.now in
    subst (λ (d : Defs). IsHierarchy (dictionary_terms d)) (sym c.defs.ensures.defs) (merged_hierarchy set.defs set.fragments c.defs.ensures.merged)

pub returns-clause-complete : goal.returns-clause-complete
returns-clause-complete c =
    let bytes = c.args.bytes.now in
    complete_of bytes (defs_term c.args.list.now.defs) c.read_over.result (subst (λ (d : Defs). IfErr c.read_over.result (IsRefusal bytes (defs_term d))) c.defs.ensures.defs c.read_over.ensures.refused)

pub returns-clause-exact : goal.returns-clause-exact
returns-clause-exact c =
    let bytes = c.args.bytes.now in
    let list = defs_term c.args.list.now.defs in
    exact_of bytes list c.read_over.result (c.one_first_break.ensures bytes list) (c.scripts_are_unbroken.ensures bytes list)
    (subst (λ (d : Defs). IfOk c.read_over.result (IsReadAs bytes (defs_term d))) c.defs.ensures.defs c.read_over.ensures.ok)
    (subst (λ (d : Defs). IfErr c.read_over.result (IsRefusal bytes (defs_term d))) c.defs.ensures.defs c.read_over.ensures.refused)
