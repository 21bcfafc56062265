use Rattle.std.proofs.Common.{ap, sym, subst, ◌∙◌}
use Rattle.std.proofs.lemmas.Result.{IfOk-weaker}
use Rattle.widl_idl.specs.DefinitionTerms.{defs_term}
use Rattle.widl_idl.specs.Meanings.{definitions_of}
use Rattle.widl_idl.specs.MergedSets.{IsMerged}
use Rattle.widl_idl.specs.PlainTrees.{definition_of, plain_definitions}
use Rattle.widl_names.proofs.PlainLists.{scope_declares, short_list}
use Rattle.widl_overload.specs.rules.Validity.{validity_rules}
use Rattle.widl_refusals.specs.Refusals.{IsFirstOver}
use Rattle.widl_valid.specs.Invalidity.{IsInvalidity}
use Rattle.widl_valid.proofs.acceptance.find_in_merged.Goals as goal

pub of-requires : goal.of-requires
of-requires c = short_list (λ d. definition_of d.now) c.deref.result.now _ _ c.deref.ensures.value (c.in_ok-definitions.ensures ∙ ap definitions_of (c.as_slice.ensures ∙ c.fragments.ensures.fragments)) c.fragments.ensures.merged.files.definitions

pub find_invalid-requires : goal.find_invalid-requires
find_invalid-requires c =
    let there = scope_declares c.deref.result.now _ _ c.in_ok-scope.scope c.deref.ensures.value (c.in_ok-definitions.ensures ∙ ap definitions_of (c.as_slice.ensures ∙ c.fragments.ensures.fragments)) c.in_ok-scope.ensures in
    record {
      fragments = c.args.merged.now.fragments;
      declare = sym there;
      merged = subst (λ d. IsMerged d c.args.merged.now.fragments) (sym c.defs.ensures.defs) c.defs.ensures.merged;
    }

pub returns : goal.returns
returns c =
    let set = c.args.merged.now in
    let there = scope_declares c.deref.result.now _ _ c.in_ok-scope.scope c.deref.ensures.value (c.in_ok-definitions.ensures ∙ ap definitions_of (c.as_slice.ensures ∙ c.fragments.ensures.fragments)) c.in_ok-scope.ensures in
    IfOk-weaker c.find_invalid.result (λ found. IsFirstOver (defs_term c.defs.result.now) (plain_definitions c.in_ok-scope.scope) validity_rules found) (IsInvalidity set)
    (λ found l. subst (λ d. IsFirstOver (defs_term d) (definitions_of set.fragments) validity_rules found) c.defs.ensures.defs (subst (λ ds. IsFirstOver (defs_term c.defs.result.now) ds validity_rules found) there l)) c.find_invalid.ensures
