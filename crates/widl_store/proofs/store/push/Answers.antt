use Rattle.widl_store.proofs.Keeping.{sound_push}
use Rattle.widl_store.proofs.Living.{homes_more}
use Rattle.widl_store.proofs.store.push.Goals as goal

pub returns-clause-sound : goal.returns-clause-sound
returns-clause-sound c sound new = rw c.in_ok-push.ensures.items (sound_push _ _ sound new)

pub returns-clause-homes : goal.returns-clause-homes
returns-clause-homes c places sound = rw c.in_ok-push.ensures.items (homes_more _ _ places sound)
