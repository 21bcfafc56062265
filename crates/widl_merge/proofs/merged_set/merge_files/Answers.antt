use Rattle.std.proofs.Common.{sym, subst}
use Rattle.std.proofs.lemmas.Result.{IfOk-weaker}
use Rattle.widl_idl.specs.MergedSets.{IsMerged}
use Rattle.widl_idl.specs.PlainTrees.{definition_of, plain_definitions}
use Rattle.widl_names.proofs.PlainLists.{scope_declares, short_list}
use Rattle.widl_merge.specs.Countable.{IsCountable}
use Rattle.widl_merge.specs.MergedLists.{IsListOf}
use Rattle.widl_merge.specs.Refusals.{IsRefusal}
use Rattle.std.specs.Prelude.{Some}
use Rattle.widl_merge.proofs.merged_set.merge_files.Goals as goal

pub of-requires : goal.of-requires
of-requires c = short_list (λ d. definition_of d.now) c.deref.result.now _ _ c.deref.ensures.value c.in_ok-definitions.ensures c.requires.files.definitions

pub merge_scope-requires : goal.merge_scope-requires
merge_scope-requires c =
    let same = scope_declares c.deref.result.now _ _ c.in_ok-scope.scope c.deref.ensures.value c.in_ok-definitions.ensures c.in_ok-scope.ensures in
    subst IsCountable (sym same) c.requires.countable

pub returns-clause-merged : goal.returns-clause-merged
returns-clause-merged c =
    let same = scope_declares c.deref.result.now _ _ c.in_ok-scope.scope c.deref.ensures.value c.in_ok-definitions.ensures c.in_ok-scope.ensures in
    IfOk-weaker c.merge_scope.result (IsListOf (plain_definitions c.in_ok-scope.scope)) (λ defs. IsMerged defs c.args.fragments.now)
    (λ defs so. so c.args.fragments.now c.requires.files (sym same)) c.merge_scope.ensures.merged

pub returns-clause-refused : goal.returns-clause-refused
returns-clause-refused c = λ refusal is.
    let same = scope_declares c.deref.result.now _ _ c.in_ok-scope.scope c.deref.ensures.value c.in_ok-definitions.ensures c.in_ok-scope.ensures in
    subst (λ ds. IsRefusal ds (Some refusal)) same (c.merge_scope.ensures.refused refusal is)
