use Rattle.widl_engine.specs.declared.jobs.Job.TheVariants as job
use Rattle.widl_engine.specs.declared.moves.Move.TheVariants as move
use Rattle.widl_engine.specs.Frames.{program_of}
use Rattle.widl_engine.proofs.Coming.{fits_on}
use Rattle.widl_engine.proofs.Leading.{leads_is, then_continues, went}
use Rattle.widl_engine.proofs.machine.Machine.reads.Goals as goal

pub finds_or_goes_on-requires-clause-fits : goal.finds_or_goes_on-requires-clause-fits
finds_or_goes_on-requires-clause-fits c = fits_on (program_of c.args.tables.now c.args.script.now) c.args.script.now (went (program_of c.args.tables.now c.args.script.now) c.args.script.now c.args.store.now c.args.self.now c.in-Ok.next (job.Read c.args.of c.args.key) (leads_is (program_of c.args.tables.now c.args.script.now) c.args.script.now _ c.in-Ok.next (c.in-Ok.ensures (program_of c.args.tables.now c.args.script.now)))).place c.requires.fits

pub returns-in-Ok : goal.returns-in-Ok
returns-in-Ok c = then_continues (program_of c.args.tables.now c.args.script.now) c.args.script.now c.args.store.now c.args.store.now c.args.store.now (move.Goes (job.Read c.args.of c.args.key)) c.in-Ok.next c.args.self.now _ c.finds_or_goes_on.new.self c.finds_or_goes_on.result (went (program_of c.args.tables.now c.args.script.now) c.args.script.now c.args.store.now c.args.self.now c.in-Ok.next (job.Read c.args.of c.args.key) (leads_is (program_of c.args.tables.now c.args.script.now) c.args.script.now _ c.in-Ok.next (c.in-Ok.ensures (program_of c.args.tables.now c.args.script.now)))) c.finds_or_goes_on.ensures
