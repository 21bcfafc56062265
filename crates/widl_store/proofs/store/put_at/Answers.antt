use Rattle.widl_store.proofs.Keeping.{sound_set}
use Rattle.widl_store.proofs.Living.{homes_set}
use Rattle.widl_store.proofs.store.put_at.Goals as goal

pub returns-clause-sound : goal.returns-clause-sound
returns-clause-sound c sound = sound_set _ _ c.index_mut.result.now c.put.new.self sound c.requires.place c.index_mut.ensures.value (c.put.ensures.sound _)

pub returns-clause-homes : goal.returns-clause-homes
returns-clause-homes c places sound = homes_set _ _ c.index_mut.result.now c.put.new.self places c.requires.place c.index_mut.ensures.value c.put.ensures.kind sound
