use Rattle.std.proofs.Common.{subst, sym, length}
use Rattle.std.specs.Prelude.{IfSome}
use Rattle.widl_store.specs.Inners.{inner_term}
use Rattle.widl_store.specs.Objects.{IsLive}
use Rattle.widl_store.specs.Sound.{SoundAt}
use Rattle.widl_store.proofs.Keeping.{new_sound}
use Rattle.widl_store.proofs.store.Store.add.Goals as goal

pub invariant_of-self-2 : goal.invariant_of-self-2
invariant_of-self-2 c = record {
  sound = c.push.ensures.sound c.self.invariant.sound (subst (SoundAt (length c.self.inside.objects.items)) (sym c.in_ok-object.ensures) (new_sound c.self.inside.objects.items c.args.proto c.args.shape (inner_term c.args.inner) (subst (λ v. IfSome c.args.proto (λ p. IsLive v.objects p)) (sym c.self.view_is) c.requires.proto) c.requires.shape));
  homes = c.push.ensures.homes _ c.self.invariant.homes;
  key = c.self.invariant.key;
}
