use Rattle.std.proofs.Common.{subst, sym}
use Rattle.widl_store.specs.Sound.{SoundHomes}
use Rattle.widl_store.proofs.store.Store.of.Goals as goal

pub invariant_of-result : goal.invariant_of-result
invariant_of-result c = record {
  sound = c.requires.sound;
  homes = subst (λ ifaces. SoundHomes c.args.objects.items (record { ifaces = ifaces; spaces = c.args.spaces })) (sym c.new.ensures) c.requires.homes;
  key = c.requires.lengths;
}
