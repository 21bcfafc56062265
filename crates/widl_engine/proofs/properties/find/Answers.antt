use Rattle.std.proofs.Common.{refl, ◌∙◌}
use Rattle.widl_store.specs.Found.{found_at}
use Rattle.widl_runs.specs.Actions.{IsProperty}
use Rattle.widl_engine.proofs.Acting.{performed}
use Rattle.widl_engine.proofs.Changing.{read_shown}
use Rattle.widl_engine.proofs.NamesRead.{if_ok}
use Rattle.widl_engine.proofs.properties.find.Goals as goal

pub returns : goal.returns
returns c =
    let found = found_at c.args.store.now.objects c.args.obj.id c.args.key in
    if_ok c.found.result c.found.ensures (λ m goes p s. performed (IsProperty found) (λ k ls. refl) (goes p s ∙ read_shown c.args.obj found c.find.result c.find.ensures))
