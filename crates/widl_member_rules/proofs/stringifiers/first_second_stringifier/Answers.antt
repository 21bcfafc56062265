use Rattle.std.proofs.Common.{arith}
use Rattle.widl_member_rules.proofs.SecondStringifiers.{nothing_seen, seen_end, seen_step}
use Rattle.widl_member_rules.proofs.stringifiers.first_second_stringifier.Goals as goal

pub loop-member-init : goal.loop-member-init
loop-member-init c = nothing_seen

pub loop-member-preserved : goal.loop-member-preserved
loop-member-preserved c =
    seen_step c.loop-member.seen c.either-seen.result c.args.members.now c.loop-member.member-index c.member-item.result c.stringifier_place-place.result c.loop-member.best c.violation_after-found.result c.earlier_violation-best.result
    (omega arith) c.member-item.is c.stringifier_place-place.ensures c.violation_after-found.ensures c.earlier_violation-best.ensures c.either-seen.ensures c.loop-member.invariant

pub returns : goal.returns
returns c = seen_end c.loop-member.seen c.args.members.now c.loop-member.member-index c.loop-member.best (omega arith) c.loop-member.invariant
