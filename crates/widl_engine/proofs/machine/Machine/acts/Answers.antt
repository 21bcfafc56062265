use Rattle.std.proofs.Common.{refl}
use Rattle.widl_engine.specs.declared.moves.Move.TheVariants as move
use Rattle.widl_engine.specs.Frames.{program_of}
use Rattle.widl_engine.proofs.Coming.{fits_due, fits_on}
use Rattle.widl_engine.proofs.Leading.{acted, then_continues}
use Rattle.widl_engine.proofs.Charging.{stopped}
use Rattle.widl_engine.proofs.machine.Machine.acts.Goals as goal

pub perform-requires : goal.perform-requires
perform-requires c = fits_due c.args.tables.now c.args.script.now c.args.store.now c.args.self.now c.args.due c.requires.fits

pub ends_or_goes_on-requires-clause-fits : goal.ends_or_goes_on-requires-clause-fits
ends_or_goes_on-requires-clause-fits c =
    fits_on (program_of c.args.tables.now c.args.script.now) c.args.script.now
    (acted (program_of c.args.tables.now c.args.script.now) c.args.script.now c.args.store.now c.perform.new.store c.args.self.now _ c.args.due c.in-Went.next (c.in-Went.ensures c.requires.read) refl refl refl).place
    c.requires.fits

pub returns-in-Went : goal.returns-in-Went
returns-in-Went c =
    then_continues (program_of c.args.tables.now c.args.script.now) c.args.script.now c.args.store.now c.perform.new.store c.perform.new.store (move.Acts c.args.due) c.in-Went.next c.args.self.now _ c.ends_or_goes_on.new.self c.ends_or_goes_on.result
    (acted (program_of c.args.tables.now c.args.script.now) c.args.script.now c.args.store.now c.perform.new.store c.args.self.now _ c.args.due c.in-Went.next (c.in-Went.ensures c.requires.read) refl refl refl)
    c.ends_or_goes_on.ensures

pub returns-in-Stopped : goal.returns-in-Stopped
returns-in-Stopped c = stopped (program_of c.args.tables.now c.args.script.now) c.args.script.now c.args.store.now c.perform.new.store c.args.self.now _ c.args.due c.in-Stopped.stop (c.in-Stopped.ensures c.requires.read) refl
