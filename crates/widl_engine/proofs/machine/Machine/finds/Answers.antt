use Rattle.std.proofs.Common.{refl}
use Rattle.widl_engine.specs.declared.due.Due.TheVariants as due
use Rattle.widl_engine.specs.declared.moves.Move.TheVariants as move
use Rattle.widl_engine.specs.Frames.{program_of}
use Rattle.widl_engine.proofs.Coming.{fits_due, fits_on}
use Rattle.widl_engine.proofs.Leading.{acted, then_continues}
use Rattle.widl_engine.proofs.machine.Machine.finds.Goals as goal

pub ends_or_goes_on-requires-clause-fits : goal.ends_or_goes_on-requires-clause-fits
ends_or_goes_on-requires-clause-fits c = fits_on (program_of c.args.tables.now c.args.script.now) c.args.script.now (acted (program_of c.args.tables.now c.args.script.now) c.args.script.now c.args.store.now c.args.store.now c.args.self.now c.args.self.now (due.Find c.args.obj c.args.key) c.in-Ok.next (c.in-Ok.ensures (program_of c.args.tables.now c.args.script.now) c.args.script.now) refl refl refl).place c.requires.fits

pub returns-in-Ok : goal.returns-in-Ok
returns-in-Ok c = then_continues (program_of c.args.tables.now c.args.script.now) c.args.script.now c.args.store.now c.args.store.now c.args.store.now (move.Acts (due.Find c.args.obj c.args.key)) c.in-Ok.next c.args.self.now _ c.ends_or_goes_on.new.self c.ends_or_goes_on.result (acted (program_of c.args.tables.now c.args.script.now) c.args.script.now c.args.store.now c.args.store.now c.args.self.now c.args.self.now (due.Find c.args.obj c.args.key) c.in-Ok.next (c.in-Ok.ensures (program_of c.args.tables.now c.args.script.now) c.args.script.now) refl refl refl) c.ends_or_goes_on.ensures

pub find-requires : goal.find-requires
find-requires c = fits_due c.args.tables.now c.args.script.now c.args.store.now c.args.self.now (due.Find c.args.obj c.args.key) c.requires.fits
