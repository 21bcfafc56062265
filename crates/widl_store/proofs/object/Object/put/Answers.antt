use Rattle.std.proofs.Common.{subst, sym}
use Rattle.widl_store.specs.Sound.{SoundAt}
use Rattle.widl_store.proofs.SoundObjects.{placed_at}
use Rattle.widl_store.proofs.object.Object.put.Goals as goal

pub returns-in-Ok-clause-sound : goal.returns-in-Ok-clause-sound
returns-in-Ok-clause-sound c id sound = subst (SoundAt id) (sym c.in-Ok.ensures.ok) (placed_at id c.args.self.now c.args.key c.args.prop c.requires.free sound)
