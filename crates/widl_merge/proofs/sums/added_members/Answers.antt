use Rattle.std.proofs.Common.{arith}
use Rattle.widl_merge.proofs.Portioned.{added_all, added_step}
use Rattle.widl_merge.proofs.sums.added_members.Goals as goal

pub loop-definition-preserved : goal.loop-definition-preserved
loop-definition-preserved c = added_step c.loop-definition.added c.add_part.new.added c.args.definitions.now c.loop-definition.definition-index c.definition-item.result (omega arith) c.definition-item.is c.in_ok-add_part.ensures c.loop-definition.invariant

pub returns : goal.returns
returns c = added_all c.loop-definition.added c.args.definitions.now c.loop-definition.definition-index (omega arith) c.loop-definition.invariant
