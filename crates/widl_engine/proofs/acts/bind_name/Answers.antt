use Rattle.widl_runs.specs.Actions.{IsDone}
use Rattle.widl_engine.proofs.acts.bind_name.Goals as goal

pub returns : goal.returns
returns c p = record { reply = IsDone; done = c.in_ok-bind.ensures p c.args.store.now; goes = c.bound.ensures p }
