use Rattle.std.proofs.Common.{take}
use Rattle.widl_tables.specs.ValuePlaces.{Hold}
use Rattle.widl_tables.proofs.value_places.places_of_choices.Given as goal

abbrev pub invariant-loop-choice : goal.invariant-loop-choice
invariant-loop-choice l = Hold l.all.items (take l.choice-index l.choices)
