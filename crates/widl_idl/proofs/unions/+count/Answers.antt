use Rattle.std.proofs.Common.{arith}
use Rattle.widl_idl.proofs.Members.{counted_more}
use Rattle.widl_idl.proofs.unions.+count.Goals as goal

pub count_members-loop-t-preserved : goal.count_members-loop-t-preserved
count_members-loop-t-preserved t c = counted_more c.as_slice-t-items.result.now c.loop-t.t-index c.t-item.result c.loop-t.count c.count_one-one.result c.count_inner-inner.result c.saturating_add.result c.saturating_add-count.result (omega arith) c.t-item.is c.count_one-one.ensures c.count_inner-inner.ensures c.saturating_add.ensures c.saturating_add-count.ensures c.loop-t.invariant
