use Rattle.widl_store.proofs.Shortest.{shortest_tuple, shortest_reached}
use Rattle.widl_store.proofs.laws.shortest_length.Goals as goal

pub returns-clause-least : goal.returns-clause-least
returns-clause-least c = shortest_tuple

pub returns-clause-reached : goal.returns-clause-reached
returns-clause-reached c = shortest_reached
