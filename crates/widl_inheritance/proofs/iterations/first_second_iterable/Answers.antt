use Rattle.std.proofs.Common.{arith, ap, ◌∙◌}
use Rattle.widl_inheritance.specs.Iterations.{violation_if}
use Rattle.widl_inheritance.proofs.IterationSteps.{nothing_seen, seen_end, seen_step}
use Rattle.widl_inheritance.proofs.iterations.first_second_iterable.Goals as goal

pub loop-member-init : goal.loop-member-init
loop-member-init c = nothing_seen c.args.inherited

pub loop-member-preserved : goal.loop-member-preserved
loop-member-preserved c =
    seen_step c.args.inherited c.loop-member.seen c.either-seen.result c.is_iterable.result c.args.members.now c.loop-member.member-index c.member-item.result c.loop-member.best c.violation_if-found.result c.earlier_violation-best.result
    (omega arith) c.member-item.is c.is_iterable.ensures (c.violation_if-found.ensures ∙ ap (violation_if c.loop-member.seen) c.iterable_place.ensures) c.earlier_violation-best.ensures c.either-seen.ensures c.loop-member.invariant

pub returns : goal.returns
returns c = seen_end c.args.inherited c.loop-member.seen c.args.members.now c.loop-member.member-index c.loop-member.best (omega arith) c.loop-member.invariant
