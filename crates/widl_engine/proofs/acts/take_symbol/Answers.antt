use Rattle.std.proofs.Common.{refl}
use Rattle.widl_value.specs.declared.value.Value.TheVariants.{Sym}
use Rattle.widl_runs.specs.Actions.{IsValue}
use Rattle.widl_engine.proofs.Acting.{performed}
use Rattle.widl_engine.proofs.acts.take_symbol.Goals as goal

pub returns : goal.returns
returns c p s = performed (IsValue (Sym c.args.place.now.next_symbol)) (λ k ls. refl) (c.gives.ensures p s)
