use Rattle.std.proofs.Common.{arith}
use Rattle.widl_idl.specs.PlainTrees.{member_of}
use Rattle.widl_merge.specs.Repeats.{IsKnown}
use Rattle.widl_names.specs.KnownTexts.{has_name}
use Rattle.widl_merge.proofs.Known.{known_first}
use Rattle.widl_names.proofs.MappedLoops.{somewhere_end, somewhere_step}
use Rattle.widl_merge.proofs.operations.first_known.Goals as goal

pub loop-member-preserved : goal.loop-member-preserved
loop-member-preserved c =
    let known = has_name c.args.known.now in
    somewhere_step member_of c.args.members.now (IsKnown known) c.loop-member.member-index c.member-item.result c.loop-member.best c.known_member-found.result c.earlier_violation-best.result (omega arith) c.member-item.is c.earlier_violation-best.ensures
    (known_first known (member_of c.member-item.result) c.known_member-found.result c.known_member-found.ensures) c.loop-member.invariant

pub returns : goal.returns
returns c = somewhere_end member_of c.args.members.now (IsKnown (has_name c.args.known.now)) c.loop-member.member-index c.loop-member.best (omega arith) c.loop-member.invariant
