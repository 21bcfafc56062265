use Rattle.std.proofs.Common.{refl, sym, ap}
use Rattle.widl_runs.specs.Actions.{IsValue}
use Rattle.widl_runs.specs.Worlds.{this_value}
use Rattle.widl_engine.specs.Place.{contexts_in}
use Rattle.widl_engine.proofs.Acting.{seen}
use Rattle.widl_engine.proofs.acts.read_this.Goals as goal

pub returns : goal.returns
returns c p s = seen (IsValue (this_value (contexts_in s c.args.place.now))) (IsValue c.in_ok-this_value.field-0) (λ k ls. refl) (ap IsValue (sym (c.in_ok-this_value.ensures s))) (c.gives.ensures p s)
