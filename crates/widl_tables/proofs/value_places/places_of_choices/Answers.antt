use Rattle.std.proofs.Common.{arith}
use Rattle.widl_tables.proofs.ValuePlaces.{hold_more}
use Rattle.widl_tables.proofs.value_places.places_of_choices.Goals as goal

pub loop-choice-preserved : goal.loop-choice-preserved
loop-choice-preserved c = hold_more c.loop-choice.all.items c.push.new.self.items c.args.choices.now c.loop-choice.choice-index c.choice-item.result c.in_ok-places.places c.as_slice.result.now (omega arith) c.choice-item.is c.in_ok-push.ensures.items c.as_slice.ensures c.in_ok-places.ensures c.loop-choice.invariant
