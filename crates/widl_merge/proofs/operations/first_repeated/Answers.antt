use Rattle.std.proofs.Common.{arith}
use Rattle.widl_idl.specs.PlainTrees.{members_of}
use Rattle.widl_names.specs.KnownTexts.{has_name}
use Rattle.widl_merge.proofs.Known.{repeated_all, repeated_step}
use Rattle.widl_merge.proofs.operations.first_repeated.Goals as goal

pub loop-part-preserved : goal.loop-part-preserved
loop-part-preserved c =
    repeated_step (has_name c.loop-part.known) (has_name c.add_all.new.known) c.args.parts.now c.loop-part.part-index c.part-item.result
    (members_of c.members_in.result.now) (members_of c.members_in-in-loop-part.result.now) c.loop-part.best c.first_known-found.result c.earlier_violation-best.result (omega arith) c.part-item.is
    c.members_in.ensures c.first_known-found.ensures c.earlier_violation-best.ensures c.members_in-in-loop-part.ensures c.in_ok-add_all.ensures c.loop-part.invariant

pub returns : goal.returns
returns c = repeated_all (has_name c.loop-part.known) c.args.parts.now c.loop-part.part-index c.loop-part.best (omega arith) c.loop-part.invariant
