use Rattle.std.proofs.Common.{arith, subst}
use Rattle.widl_idl.specs.PlainTrees.{plain_definitions}
use Rattle.widl_merge.specs.Portions.{KeepsAdded}
use Rattle.widl_names.proofs.PlainLists.{listed_same}
use Rattle.widl_merge.proofs.Portioned.{nothing_summed, sum_all, sum_step}
use Rattle.widl_merge.proofs.sums.first_past_limit.Goals as goal

pub loop-number-init : goal.loop-number-init
loop-number-init c = nothing_summed

pub loop-number-preserved : goal.loop-number-preserved
loop-number-preserved c = sum_step (plain_definitions c.args.meanings.now) c.all-definitions.result.now c.loop-number.number c.index-definitions-number.result c.portion_of-portion.result c.loop-number.sum c.summed-sum.result c.loop-number.best c.passed-found.result c.earlier_violation-best.result (omega arith) c.index-definitions-number.is c.portion_of-portion.ensures c.passed-found.ensures c.earlier_violation-best.ensures c.summed-sum.ensures c.loop-number.invariant

pub returns : goal.returns
returns c = sum_all (plain_definitions c.args.meanings.now) c.all-definitions.result.now c.loop-number.number c.loop-number.sum c.loop-number.best (omega arith) (listed_same c.all-definitions.result.now c.args.meanings.now c.all-definitions.ensures) c.loop-number.invariant

pub portion_of-portion-requires : goal.portion_of-portion-requires
portion_of-portion-requires c = subst (KeepsAdded c.in_ok-added.added) (listed_same c.all-definitions.result.now c.args.meanings.now c.all-definitions.ensures) c.in_ok-added.ensures
