use Rattle.std.proofs.Common.{subst, sym}
use Rattle.widl_store.specs.Sound.{SoundAt}
use Rattle.widl_store.proofs.SoundObjects.{removed_at}
use Rattle.widl_store.proofs.object.Object.remove.Goals as goal

pub returns-clause-sound : goal.returns-clause-sound
returns-clause-sound c id sound = subst (SoundAt id) (sym c.take.ensures) (removed_at id c.args.self.now c.args.key.now c.requires sound)
