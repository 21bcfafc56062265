use Rattle.std.proofs.Common.{refl, sym, ap}
use Rattle.widl_runs.specs.Actions.{IsBody, body_at}
use Rattle.widl_engine.specs.declared.due.Due.TheVariants as due
use Rattle.widl_engine.specs.declared.moves.Move.TheVariants as move
use Rattle.widl_engine.specs.Frames.{body_of}
use Rattle.widl_engine.proofs.Acting.{seen}
use Rattle.widl_engine.proofs.Charging.{stopped}
use Rattle.widl_engine.proofs.Leading.{acted, at_move, stays_moved, stays_turns, then_continues, then_moves, then_runs}
use Rattle.widl_engine.proofs.machine.Machine.calls_body.Goals as goal

pub returns-in-Went-Pays : goal.returns-in-Went-Pays
returns-in-Went-Pays c p s =
    stays_turns p s c.args.store.now c.args.store.now c.args.store.now (move.Acts (due.FindBody c.args.f c.args.this c.args.args)) c.in-Went-Pays.field-0 c.args.self.now c.args.self.now c.rests.new.self c.rests.result
    (stays_moved (then_moves (acted p s c.args.store.now c.args.store.now c.args.self.now c.args.self.now (due.FindBody c.args.f c.args.this c.args.args) (move.Acts (due.Depth c.args.f c.args.this c.args.args c.body_of-body.result)) (seen (IsBody (body_at c.args.store.now.objects c.args.f)) (IsBody (body_of c.body_of-body.result)) (λ k ls. refl) (ap IsBody (sym c.body_of-body.ensures)) refl) refl refl refl)
    (acted p s c.args.store.now c.args.store.now c.args.self.now c.args.self.now (due.Depth c.args.f c.args.this c.args.args c.body_of-body.result) c.in-Went-Pays.field-0 (c.in-Went-Pays.ensures p s) refl refl refl)))
    (at_move p s c.args.store.now c.args.store.now c.in-Went-Pays.field-0 (move.Pays c.in-Went-Pays.charge) c.args.self.now c.rests.new.self c.rests.result c.in-Went-Pays.field-0-is (c.rests.ensures p s c.args.store.now))

pub returns-in-Went : goal.returns-in-Went
returns-in-Went c p s = then_continues p s c.args.store.now c.args.store.now c.args.store.now (move.Acts (due.FindBody c.args.f c.args.this c.args.args)) c.in-Went.next c.args.self.now c.args.self.now c.args.self.now c.more.result (then_moves (acted p s c.args.store.now c.args.store.now c.args.self.now c.args.self.now (due.FindBody c.args.f c.args.this c.args.args) (move.Acts (due.Depth c.args.f c.args.this c.args.args c.body_of-body.result)) (seen (IsBody (body_at c.args.store.now.objects c.args.f)) (IsBody (body_of c.body_of-body.result)) (λ k ls. refl) (ap IsBody (sym c.body_of-body.ensures)) refl) refl refl refl)
    (acted p s c.args.store.now c.args.store.now c.args.self.now c.args.self.now (due.Depth c.args.f c.args.this c.args.args c.body_of-body.result) c.in-Went.next (c.in-Went.ensures p s) refl refl refl)) (c.more.ensures p s c.args.store.now c.args.self.now)

pub returns-in-Stopped : goal.returns-in-Stopped
returns-in-Stopped c p s =
    then_runs (acted p s c.args.store.now c.args.store.now c.args.self.now c.args.self.now (due.FindBody c.args.f c.args.this c.args.args) (move.Acts (due.Depth c.args.f c.args.this c.args.args c.body_of-body.result)) (seen (IsBody (body_at c.args.store.now.objects c.args.f)) (IsBody (body_of c.body_of-body.result)) (λ k ls. refl) (ap IsBody (sym c.body_of-body.ensures)) refl) refl refl refl).place
    (stopped p s c.args.store.now c.args.store.now c.args.self.now c.args.self.now (due.Depth c.args.f c.args.this c.args.args c.body_of-body.result) c.in-Stopped.stop (c.in-Stopped.ensures p s) refl)
