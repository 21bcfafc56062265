use Rattle.std.proofs.Common.{sym, subst}
use Rattle.std.proofs.lemmas.Result.{IfOk-weaker}
use Rattle.widl_idl.specs.PlainTrees.{plain_definitions}
use Rattle.widl_merge.specs.Countable.{IsCountable}
use Rattle.widl_merge.specs.GrownLists.{AreListed}
use Rattle.widl_merge.specs.MergedDefs.{AreMerged}
use Rattle.widl_merge.specs.MergedLists.{IsListOf}
use Rattle.widl_merge.proofs.Unbroken.{breaks_none, is_merged}
use Rattle.widl_merge.proofs.merged_set.merge_unbroken.Goals as goal

pub merge_definitions-requires : goal.merge_definitions-requires
merge_definitions-requires c = (breaks_none (plain_definitions c.args.scope.now) c.requires.unbroken).merging

pub returns : goal.returns
returns c =
    let all = plain_definitions c.args.scope.now in
    IfOk-weaker c.merge_definitions.result (λ defs. AreListed all all defs) (IsListOf all)
    (λ defs so fragments files same. is_merged fragments defs files (subst IsCountable (sym same) c.requires.countable)
    (subst (λ ds. AreMerged ds defs) (sym same) (record { kept = breaks_none all c.requires.unbroken; listed = so }))) c.merge_definitions.ensures
