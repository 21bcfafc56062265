use Rattle.std.proofs.Common.{refl}
use Rattle.widl_engine.proofs.acts.reach.Goals as goal

pub returns : goal.returns
returns c p s = record { store = refl; place = refl; stops = λ k ls. refl }
