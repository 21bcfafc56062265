use Rattle.std.proofs.Common.{◌∙◌, ap}
use Rattle.widl_engine.specs.declared.jobs.Job.{Job}
use Rattle.widl_engine.specs.declared.jobs.Job.TheVariants as job
use Rattle.widl_engine.specs.declared.moves.Move.TheVariants as move
use Rattle.widl_engine.specs.Frames.{program_of}
use Rattle.widl_engine.proofs.Coming.{fits_known}
use Rattle.widl_engine.proofs.Leading.{at_continued, continues}
use Rattle.widl_engine.proofs.machine.Machine.reads_or_goes_on.Goals as goal

pub reads-requires-clause-fits : goal.reads-requires-clause-fits
reads-requires-clause-fits c = fits_known (program_of c.args.tables.now c.args.script.now) c.args.script.now c.args.store.now c.args.self.now c.args.next (move.Goes (job.Read c.in-Read.of c.in-Read.key)) (c.in-Goes.is ∙ ap (λ (j : Job). move.Goes j) c.in-Read.is) c.requires.fits

pub goes_on-requires-clause-fits : goal.goes_on-requires-clause-fits
goes_on-requires-clause-fits c = fits_known (program_of c.args.tables.now c.args.script.now) c.args.script.now c.args.store.now c.args.self.now c.args.next (move.Goes c.in-Goes.job) c.in-Goes.is c.requires.fits

pub reads_under-requires-clause-fits : goal.reads_under-requires-clause-fits
reads_under-requires-clause-fits c = fits_known (program_of c.args.tables.now c.args.script.now) c.args.script.now c.args.store.now c.args.self.now c.args.next (move.Steps c.in-Steps.frame (job.Read c.in-Read-job.of c.in-Read-job.key)) (c.in-Steps.is ∙ ap (λ (j : Job). move.Steps c.in-Steps.frame j) c.in-Read-job.is) c.requires.fits

pub returns-in-Read : goal.returns-in-Read
returns-in-Read c = at_continued (program_of c.args.tables.now c.args.script.now) c.args.script.now c.args.store.now c.args.store.now c.args.next (move.Goes (job.Read c.in-Read.of c.in-Read.key)) c.args.self.now c.reads.new.self c.reads.result (c.in-Goes.is ∙ ap (λ (j : Job). move.Goes j) c.in-Read.is) (continues (program_of c.args.tables.now c.args.script.now) c.args.script.now c.args.store.now c.args.store.now (move.Goes (job.Read c.in-Read.of c.in-Read.key)) c.args.self.now c.reads.new.self c.reads.result c.reads.ensures)

pub returns-in_default-job : goal.returns-in_default-job
returns-in_default-job c = at_continued (program_of c.args.tables.now c.args.script.now) c.args.script.now c.args.store.now c.args.store.now c.args.next (move.Goes c.in-Goes.job) c.args.self.now c.goes_on.new.self c.goes_on.result c.in-Goes.is c.goes_on.ensures

pub returns-in-Read-job : goal.returns-in-Read-job
returns-in-Read-job c = at_continued (program_of c.args.tables.now c.args.script.now) c.args.script.now c.args.store.now c.args.store.now c.args.next (move.Steps c.in-Steps.frame (job.Read c.in-Read-job.of c.in-Read-job.key)) c.args.self.now c.reads_under.new.self c.reads_under.result (c.in-Steps.is ∙ ap (λ (j : Job). move.Steps c.in-Steps.frame j) c.in-Read-job.is) (continues (program_of c.args.tables.now c.args.script.now) c.args.script.now c.args.store.now c.args.store.now (move.Steps c.in-Steps.frame (job.Read c.in-Read-job.of c.in-Read-job.key)) c.args.self.now c.reads_under.new.self c.reads_under.result c.reads_under.ensures)

pub returns-in_default-job-2 : goal.returns-in_default-job-2
returns-in_default-job-2 c = at_continued (program_of c.args.tables.now c.args.script.now) c.args.script.now c.args.store.now c.args.store.now c.args.next (move.Steps c.in-Steps.frame c.in-Steps.job) c.args.self.now c.args.self.now c.more.result c.in-Steps.is (c.more.ensures (program_of c.args.tables.now c.args.script.now) c.args.script.now c.args.store.now c.args.self.now)
