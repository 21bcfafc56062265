use Rattle.std.proofs.Common.{arith}
use Rattle.widl_member_rules.specs.MemberTables.{clashes}
use Rattle.widl_member_rules.proofs.Repetitions.{nothing_repeated, repeated_end, repeated_step}
use Rattle.widl_member_rules.proofs.repeated_members.first_repeated_member.Goals as goal

pub loop-member-init : goal.loop-member-init
loop-member-init c = nothing_repeated (clashes c.new-names.result.operations c.new-names.result.others) c.new-names.ensures

pub loop-member-preserved : goal.loop-member-preserved
loop-member-preserved c =
    repeated_step (clashes c.loop-member.names.operations c.loop-member.names.others) (clashes c.add.new.self.operations c.add.new.self.others) c.args.members.now c.loop-member.member-index c.member-item.result
    c.loop-member.best c.repeated-found.result c.earlier_violation-best.result (omega arith) c.member-item.is c.repeated-found.ensures c.earlier_violation-best.ensures c.in_ok-add.ensures c.loop-member.invariant

pub returns : goal.returns
returns c = repeated_end (clashes c.loop-member.names.operations c.loop-member.names.others) c.args.members.now c.loop-member.member-index c.loop-member.best (omega arith) c.loop-member.invariant
