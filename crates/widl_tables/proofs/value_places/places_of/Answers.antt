use Rattle.std.proofs.Common.{arith}
use Rattle.widl_tables.proofs.ValuePlaces.{places_more}
use Rattle.widl_tables.proofs.value_places.places_of.Goals as goal

pub loop-place-preserved : goal.loop-place-preserved
loop-place-preserved c = places_more c.loop-place.places c.note.new.self c.args.values.now c.loop-place.place c.index-values-place.result (omega arith) c.index-values-place.is c.in_ok-note.ensures c.loop-place.invariant
