use Rattle.std.proofs.Common.{refl}
use Rattle.widl_engine.specs.declared.jobs.Job.TheVariants as job
use Rattle.widl_engine.specs.declared.moves.Move.TheVariants as move
use Rattle.widl_engine.specs.Frames.{program_of}
use Rattle.widl_engine.proofs.Coming.{fits_on}
use Rattle.widl_engine.proofs.Leading.{leads_is, stepped, then_continues}
use Rattle.widl_engine.proofs.machine.Machine.asks.Goals as goal

pub goes_on-requires-clause-fits : goal.goes_on-requires-clause-fits
goes_on-requires-clause-fits c = fits_on (program_of c.args.tables.now c.args.script.now) c.args.script.now (stepped (program_of c.args.tables.now c.args.script.now) c.args.script.now c.args.store.now c.args.self.now _ c.in-Ok-asks.next c.args.frame (job.Asked c.args.ask) refl refl refl c.in-Ok.ensures (leads_is (program_of c.args.tables.now c.args.script.now) c.args.script.now _ c.in-Ok-asks.next (c.in-Ok-asks.ensures (program_of c.args.tables.now c.args.script.now) c.args.script.now))).place c.requires.fits

pub returns-in-Ok-asks : goal.returns-in-Ok-asks
returns-in-Ok-asks c = then_continues (program_of c.args.tables.now c.args.script.now) c.args.script.now c.args.store.now c.args.store.now c.args.store.now (move.Steps c.args.frame (job.Asked c.args.ask)) c.in-Ok-asks.next c.args.self.now _ c.goes_on.new.self c.goes_on.result (stepped (program_of c.args.tables.now c.args.script.now) c.args.script.now c.args.store.now c.args.self.now _ c.in-Ok-asks.next c.args.frame (job.Asked c.args.ask) refl refl refl c.in-Ok.ensures (leads_is (program_of c.args.tables.now c.args.script.now) c.args.script.now _ c.in-Ok-asks.next (c.in-Ok-asks.ensures (program_of c.args.tables.now c.args.script.now) c.args.script.now))) c.goes_on.ensures
