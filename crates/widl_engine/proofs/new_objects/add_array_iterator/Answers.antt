use Rattle.widl_runs.specs.Actions.{ArrayIteratorPrototype}
use Rattle.widl_engine.proofs.new_objects.add_array_iterator.Goals as goal

pub add-requires-clause-proto : goal.add-requires-clause-proto
add-requires-clause-proto c = c.requires.prototypes ArrayIteratorPrototype
