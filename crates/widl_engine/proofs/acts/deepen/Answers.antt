use Rattle.std.proofs.Common.{refl, sym, ◌∙◌, ap, true, false}
use Rattle.widl_runs.specs.Actions.{IsDone}
use Rattle.widl_engine.specs.Frames.{move_of}
use Rattle.widl_engine.proofs.Acting.{performed, has_depth}
use Rattle.widl_engine.proofs.acts.deepen.Goals as goal

pub returns-then-has_room : goal.returns-then-has_room
returns-then-has_room c p s = performed IsDone (λ k ls. has_depth s c.args.store.now c.args.place.now p true k ls (sym (c.has_room.ensures s) ∙ c.if-has_room.true)) (ap (move_of p s) c.call_line.ensures)

pub returns : goal.returns
returns c p s = record { store = refl; place = refl; stops = λ k ls. has_depth s c.args.store.now c.args.place.now p false k ls (sym (c.has_room.ensures s) ∙ c.if-has_room.false) }
