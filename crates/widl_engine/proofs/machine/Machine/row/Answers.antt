use Rattle.std.proofs.Common.{refl}
use Rattle.widl_engine.specs.declared.jobs.Job.TheVariants as job
use Rattle.widl_engine.specs.declared.moves.Move.TheVariants as move
use Rattle.widl_engine.specs.Frames.{program_of}
use Rattle.widl_engine.proofs.Coming.{fits_on}
use Rattle.widl_engine.proofs.Leading.{stays_turns}
use Rattle.widl_engine.proofs.machine.Machine.row.Goals as goal

pub goes_on_in_row-requires : goal.goes_on_in_row-requires
goes_on_in_row-requires c = record { fits = fits_on (program_of c.args.tables.now c.args.script.now) c.args.script.now (c.in-Ok.ensures (program_of c.args.tables.now c.args.script.now) c.requires.read c.args.what c.args.self.now refl).place c.requires.fits }

pub returns-in-Ok : goal.returns-in-Ok
returns-in-Ok c =
    stays_turns (program_of c.args.tables.now c.args.script.now) c.args.script.now c.args.store.now c.args.store.now c.args.store.now (move.Goes (job.Row c.args.what c.args.made c.args.row)) (move.Goes (job.Row c.args.what c.in-Ok.left.made c.in-Ok.left.rest)) c.args.self.now c.args.self.now c.goes_on_in_row.new.self c.goes_on_in_row.result
    (c.in-Ok.ensures (program_of c.args.tables.now c.args.script.now) c.requires.read c.args.what c.args.self.now refl)
    c.goes_on_in_row.ensures
