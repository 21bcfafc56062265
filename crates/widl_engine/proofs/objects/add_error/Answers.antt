use Rattle.widl_runs.specs.Actions.{TypeErrorPrototype}
use Rattle.widl_engine.proofs.objects.add_error.Goals as goal

pub add-requires-clause-proto : goal.add-requires-clause-proto
add-requires-clause-proto c = c.requires.prototypes TypeErrorPrototype
