use Rattle.std.proofs.Common.{sym, ap}
use Rattle.widl_dialog.specs.Runs.{Went}
use Rattle.widl_value.specs.declared.value.Value.{Value}
use Rattle.widl_runs.specs.Actions.{IsValue}
use Rattle.widl_engine.specs.Place.{world_of}
use Rattle.widl_engine.proofs.Acting.{Done, performed}
use Rattle.widl_engine.proofs.acts.read_name.Goals as goal

pub returns : goal.returns
returns c p over =
    performed (IsValue c.in_ok-read.field-0)
    (λ k ls. ap (λ (v : Value). let d : Done = Went (world_of c.args.script.now c.args.store.now c.args.place.now k ls) (IsValue v) in d) (sym (c.in_ok-read.ensures p over k ls)))
    (c.gives.ensures p c.args.script.now)
