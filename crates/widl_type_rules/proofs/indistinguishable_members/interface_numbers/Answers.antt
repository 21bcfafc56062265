use Rattle.std.proofs.Common.{arith}
use Rattle.widl_type_rules.proofs.IndistinguishableKinds.{numbers_more}
use Rattle.widl_type_rules.proofs.indistinguishable_members.interface_numbers.Goals as goal

pub loop-t-preserved : goal.loop-t-preserved
loop-t-preserved c = numbers_more c.as_slice-t-items.result.now c.loop-t.t-index c.t-item.result c.category_of.result c.loop-t.numbers.items c.push_number.new.numbers.items (omega arith) c.t-item.is c.category_of.ensures c.in_ok-push_number.ensures c.loop-t.invariant
