use Rattle.std.proofs.Common.{ap, refl, sym, subst}
use Rattle.std.proofs.lemmas.Result.{IfOk-weaker}
use Rattle.std.specs.Prelude.{Some, Err}
use Rattle.widl_idl.specs.PlainTrees.{definition_of}
use Rattle.widl_names.proofs.PlainLists.{scope_declares, short_list}
use Rattle.widl_merge.specs.Countable.{IsCountable}
use Rattle.widl_merge.specs.Refusals.{IsRefusal}
use Rattle.widl_front.specs.Steps.{IsAcceptedList}
use Rattle.widl_front.specs.Verdicts.{IsTreeRefusal}
use Rattle.widl_front.proofs.checking.accepted_list.Goals as goal

pub of-requires : goal.of-requires
of-requires c = short_list (λ d. definition_of d.now) c.deref.result.now _ _ c.deref.ensures.value c.in_ok-definitions.ensures c.requires.files.definitions

pub merge_scope-requires : goal.merge_scope-requires
merge_scope-requires c =
    let same = scope_declares c.deref.result.now _ _ c.in_ok-scope.scope c.deref.ensures.value c.in_ok-definitions.ensures c.in_ok-scope.ensures in
    subst IsCountable (sym same) c.requires.countable

pub valid_list-requires : goal.valid_list-requires
valid_list-requires c =
    let same = scope_declares c.deref.result.now _ _ c.in_ok-scope.scope c.deref.ensures.value c.in_ok-definitions.ensures c.in_ok-scope.ensures in
    record { fragments = c.args.trees.now; declare = sym same; merged = c.in-Ok.ensures.merged c.args.trees.now c.requires.files (sym same) }

pub returns : goal.returns
returns c =
    let same = scope_declares c.deref.result.now _ _ c.in_ok-scope.scope c.deref.ensures.value c.in_ok-definitions.ensures c.in_ok-scope.ensures in
    IfOk-weaker c.valid_list.result _ (IsAcceptedList c.args.trees.now)
    (λ found so. so c.args.trees.now (sym same) (c.in-Ok.ensures.merged c.args.trees.now c.requires.files (sym same))) c.valid_list.ensures

pub returns-in-Err-Refused : goal.returns-in-Err-Refused
returns-in-Err-Refused c =
    let same = scope_declares c.deref.result.now _ _ c.in_ok-scope.scope c.deref.ensures.value c.in_ok-definitions.ensures c.in_ok-scope.ensures in
    subst (λ r. IsTreeRefusal c.args.trees.now (Some r)) (sym c.in-Err-Refused.refusal-is)
    (record { early = Some c.in-Err-Refused.refusal; early_is = subst (λ ds. IsRefusal ds (Some c.in-Err-Refused.refusal)) same (c.in-Err-Refused.ensures.refused c.in-Err-Refused.refusal (ap Err c.in-Err-Refused.field-0-is)); after = refl })
