use Rattle.std.proofs.Common.{subst, ℕ, List, [], ◌∷◌}
use Rattle.widl_script_tree.specs.Tables.{name_at}
use Rattle.widl_value.specs.declared.value.Value.{Value}
use Rattle.widl_runs.specs.Worlds as worlds
use Rattle.widl_engine.specs.Place.{OtherContexts, contexts_in, named}
use Rattle.widl_engine.proofs.ContextLaws.{on_ok}
use Rattle.widl_engine.proofs.entering.enter_plain.Goals as goal

pub returns : goal.returns
returns c =
    on_ok c.enter_context.result c.enter_context.ensures (λ o s.
    subst (λ (l : List (ℕ × Value)). let inner : worlds.Context = record { this = c.args.this; names = []; locals = named (name_at s) l } in OtherContexts s c.args.place.now c.enter_context.new.place (inner ∷ contexts_in s c.args.place.now)) c.new.ensures (o s))
