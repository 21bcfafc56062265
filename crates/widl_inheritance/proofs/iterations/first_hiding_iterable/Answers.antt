use Rattle.std.proofs.Common.{arith, ap, ◌∙◌}
use Rattle.widl_inheritance.specs.Iterations.{violation_if}
use Rattle.widl_inheritance.proofs.IterationSteps.{hides_all, hides_next}
use Rattle.widl_inheritance.proofs.iterations.first_hiding_iterable.Goals as goal

pub loop-member-preserved : goal.loop-member-preserved
loop-member-preserved c =
    hides_next c.args.named c.args.members.now c.loop-member.member-index c.member-item.result c.loop-member.best c.violation_if-found.result c.earlier_violation-best.result
    (omega arith) c.member-item.is (c.violation_if-found.ensures ∙ ap (violation_if c.args.named) c.iterable_place.ensures) c.earlier_violation-best.ensures c.loop-member.invariant

pub returns : goal.returns
returns c = hides_all c.args.named c.args.members.now c.loop-member.member-index c.loop-member.best (omega arith) c.loop-member.invariant
