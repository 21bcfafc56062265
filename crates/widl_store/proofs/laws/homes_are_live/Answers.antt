use Rattle.widl_store.proofs.LiveHomes.{homes_live}
use Rattle.widl_store.proofs.laws.homes_are_live.Goals as goal

pub returns : goal.returns
returns c = homes_live
