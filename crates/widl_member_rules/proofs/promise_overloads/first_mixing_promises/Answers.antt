use Rattle.std.proofs.Common.{arith}
use Rattle.widl_idl.specs.PlainTrees.{plain_definitions}
use Rattle.widl_member_rules.specs.MemberTables.{has_returned}
use Rattle.widl_member_rules.proofs.Returned.{nothing_returned, returned_end, returned_step}
use Rattle.widl_member_rules.proofs.promise_overloads.first_mixing_promises.Goals as goal

pub loop-member-init : goal.loop-member-init
loop-member-init c = nothing_returned (has_returned c.new-names.result.promises c.new-names.result.others) (plain_definitions c.args.resolver.now) c.new-names.ensures

pub loop-member-preserved : goal.loop-member-preserved
loop-member-preserved c =
    let old = c.loop-member.names in
    let new = c.add.new.self in
    returned_step (has_returned old.promises old.others) (has_returned new.promises new.others) (plain_definitions c.args.resolver.now)
    c.args.members.now c.loop-member.member-index c.member-item.result c.in_ok-promise.promise c.loop-member.best c.differing-found.result c.earlier_violation-best.result (omega arith) c.member-item.is
    c.in_ok-promise.ensures c.differing-found.ensures c.earlier_violation-best.ensures c.in_ok-add.ensures c.loop-member.invariant

pub returns : goal.returns
returns c =
    let names = c.loop-member.names in
    returned_end (has_returned names.promises names.others) (plain_definitions c.args.resolver.now) c.args.members.now c.loop-member.member-index c.loop-member.best (omega arith) c.loop-member.invariant
