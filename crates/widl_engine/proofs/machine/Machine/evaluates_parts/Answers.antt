use Rattle.std.proofs.Common.{refl}
use Rattle.widl_engine.specs.declared.jobs.Job.TheVariants as job
use Rattle.widl_engine.specs.declared.moves.Move.TheVariants as move
use Rattle.widl_engine.specs.Frames.{program_of}
use Rattle.widl_engine.proofs.Coming.{fits_on}
use Rattle.widl_engine.proofs.Leading.{leads_is, stepped, then_continues}
use Rattle.widl_engine.proofs.machine.Machine.evaluates_parts.Goals as goal

pub goes_on_with_part-requires-clause-fits : goal.goes_on_with_part-requires-clause-fits
goes_on_with_part-requires-clause-fits c = fits_on (program_of c.args.tables.now c.args.script.now) c.args.script.now (stepped (program_of c.args.tables.now c.args.script.now) c.args.script.now c.args.store.now c.args.self.now _ c.in-Ok-evaluate.next c.args.frame (job.Evaluate c.args.place) refl refl refl c.in-Ok.ensures (leads_is (program_of c.args.tables.now c.args.script.now) c.args.script.now _ c.in-Ok-evaluate.next (c.in-Ok-evaluate.ensures (program_of c.args.tables.now c.args.script.now)))).place c.requires.fits

pub returns-in-Ok-evaluate : goal.returns-in-Ok-evaluate
returns-in-Ok-evaluate c = then_continues (program_of c.args.tables.now c.args.script.now) c.args.script.now c.args.store.now c.args.store.now c.args.store.now (move.Steps c.args.frame (job.Evaluate c.args.place)) c.in-Ok-evaluate.next c.args.self.now _ c.goes_on_with_part.new.self c.goes_on_with_part.result (stepped (program_of c.args.tables.now c.args.script.now) c.args.script.now c.args.store.now c.args.self.now _ c.in-Ok-evaluate.next c.args.frame (job.Evaluate c.args.place) refl refl refl c.in-Ok.ensures (leads_is (program_of c.args.tables.now c.args.script.now) c.args.script.now _ c.in-Ok-evaluate.next (c.in-Ok-evaluate.ensures (program_of c.args.tables.now c.args.script.now)))) c.goes_on_with_part.ensures
