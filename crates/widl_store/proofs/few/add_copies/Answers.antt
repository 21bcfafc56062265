use Rattle.std.proofs.Common.{arith}
use Rattle.widl_store.proofs.FewProperties.{absent_item}
use Rattle.widl_store.proofs.few.add_copies.Goals as goal

pub create-requires : goal.create-requires
create-requires c = absent_item c.args.entries.now c.loop-label.label-index c.loop-label-item.result c.in_ok-key.key c.loop-label.map c.requires.once (omega arith) c.loop-label-item.is c.loop-label.invariant c.in_ok-key.ensures
