use Rattle.std.proofs.Common.{refl}
use Rattle.widl_engine.specs.declared.due.Due.TheVariants as due
use Rattle.widl_engine.specs.declared.moves.Move.TheVariants as move
use Rattle.widl_engine.specs.Frames.{program_of}
use Rattle.widl_engine.proofs.Coming.{fits_on}
use Rattle.widl_engine.proofs.Leading.{acted, then_continues}
use Rattle.widl_engine.proofs.machine.Machine.enters_talk.Goals as goal

pub talks_or_goes_on-requires-clause-fits : goal.talks_or_goes_on-requires-clause-fits
talks_or_goes_on-requires-clause-fits c = fits_on (program_of c.args.tables.now c.args.script.now) c.args.script.now (acted (program_of c.args.tables.now c.args.script.now) c.args.script.now c.args.store.now c.args.store.now c.args.self.now _ (due.EnterBuiltin c.args.f c.args.function c.args.this c.args.args) c.in-Ok.next (c.in-Ok.ensures (program_of c.args.tables.now c.args.script.now) c.args.script.now) refl refl refl).place c.requires.fits

pub returns-in-Ok : goal.returns-in-Ok
returns-in-Ok c = then_continues (program_of c.args.tables.now c.args.script.now) c.args.script.now c.args.store.now c.args.store.now c.args.store.now (move.Acts (due.EnterBuiltin c.args.f c.args.function c.args.this c.args.args)) c.in-Ok.next c.args.self.now _ c.talks_or_goes_on.new.self c.talks_or_goes_on.result (acted (program_of c.args.tables.now c.args.script.now) c.args.script.now c.args.store.now c.args.store.now c.args.self.now _ (due.EnterBuiltin c.args.f c.args.function c.args.this c.args.args) c.in-Ok.next (c.in-Ok.ensures (program_of c.args.tables.now c.args.script.now) c.args.script.now) refl refl refl) c.talks_or_goes_on.ensures
