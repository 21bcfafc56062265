use Rattle.std.proofs.Common.{refl}
use Rattle.widl_engine.specs.declared.jobs.Job.TheVariants as job
use Rattle.widl_engine.specs.declared.moves.Move.TheVariants as move
use Rattle.widl_engine.specs.Frames.{program_of}
use Rattle.widl_engine.proofs.Coming.{fits_on}
use Rattle.widl_engine.proofs.Leading.{leads_is, stepped, then_continues}
use Rattle.widl_engine.proofs.machine.Machine.reads_under.Goals as goal

pub finds_or_goes_on-requires-clause-fits : goal.finds_or_goes_on-requires-clause-fits
finds_or_goes_on-requires-clause-fits c = fits_on (program_of c.args.tables.now c.args.script.now) c.args.script.now (stepped (program_of c.args.tables.now c.args.script.now) c.args.script.now c.args.store.now c.args.self.now _ c.in-Ok-read_member.next c.args.frame (job.Read c.args.of c.args.key) refl refl refl c.in-Ok.ensures (leads_is (program_of c.args.tables.now c.args.script.now) c.args.script.now _ c.in-Ok-read_member.next (c.in-Ok-read_member.ensures (program_of c.args.tables.now c.args.script.now)))).place c.requires.fits

pub returns-in-Ok-read_member : goal.returns-in-Ok-read_member
returns-in-Ok-read_member c = then_continues (program_of c.args.tables.now c.args.script.now) c.args.script.now c.args.store.now c.args.store.now c.args.store.now (move.Steps c.args.frame (job.Read c.args.of c.args.key)) c.in-Ok-read_member.next c.args.self.now _ c.finds_or_goes_on.new.self c.finds_or_goes_on.result (stepped (program_of c.args.tables.now c.args.script.now) c.args.script.now c.args.store.now c.args.self.now _ c.in-Ok-read_member.next c.args.frame (job.Read c.args.of c.args.key) refl refl refl c.in-Ok.ensures (leads_is (program_of c.args.tables.now c.args.script.now) c.args.script.now _ c.in-Ok-read_member.next (c.in-Ok-read_member.ensures (program_of c.args.tables.now c.args.script.now)))) c.finds_or_goes_on.ensures
