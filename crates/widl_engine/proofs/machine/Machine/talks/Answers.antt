use Rattle.std.proofs.Common.{refl}
use Rattle.widl_engine.specs.declared.jobs.Job.TheVariants as job
use Rattle.widl_engine.specs.declared.moves.Move.TheVariants as move
use Rattle.widl_engine.specs.Frames.{program_of}
use Rattle.widl_engine.proofs.Coming.{fits_on, fits_stepped}
use Rattle.widl_engine.proofs.Leading.{stepped, then_continues}
use Rattle.widl_engine.proofs.machine.Machine.talks.Goals as goal

pub begins-requires : goal.begins-requires
begins-requires c = record { few = fits_stepped (program_of c.args.tables.now c.args.script.now) c.args.script.now c.args.store.now c.args.self.now (move.Steps c.args.frame (job.Function c.args.call)) c.args.frame (job.Function c.args.call) refl c.requires.fits }

pub asks_or_goes_on-requires-clause-fits : goal.asks_or_goes_on-requires-clause-fits
asks_or_goes_on-requires-clause-fits c = fits_on (program_of c.args.tables.now c.args.script.now) c.args.script.now (stepped (program_of c.args.tables.now c.args.script.now) c.args.script.now c.args.store.now c.args.self.now _ c.in-Ok-begins.next c.args.frame (job.Function c.args.call) refl refl refl c.in-Ok.ensures (c.in-Ok-begins.ensures c.requires.read)).place c.requires.fits

pub returns-in-Ok-begins : goal.returns-in-Ok-begins
returns-in-Ok-begins c = then_continues (program_of c.args.tables.now c.args.script.now) c.args.script.now c.args.store.now c.args.store.now c.args.store.now (move.Steps c.args.frame (job.Function c.args.call)) c.in-Ok-begins.next c.args.self.now _ c.asks_or_goes_on.new.self c.asks_or_goes_on.result (stepped (program_of c.args.tables.now c.args.script.now) c.args.script.now c.args.store.now c.args.self.now _ c.in-Ok-begins.next c.args.frame (job.Function c.args.call) refl refl refl c.in-Ok.ensures (c.in-Ok-begins.ensures c.requires.read)) c.asks_or_goes_on.ensures
