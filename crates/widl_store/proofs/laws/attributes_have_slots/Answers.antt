use Rattle.widl_store.proofs.LiveHomes.{attributes_have_slots}
use Rattle.widl_store.proofs.laws.attributes_have_slots.Goals as goal

pub returns : goal.returns
returns c = attributes_have_slots
