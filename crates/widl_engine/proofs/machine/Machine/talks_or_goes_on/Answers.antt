use Rattle.std.proofs.Common.{◌∙◌, ap}
use Rattle.widl_engine.specs.declared.jobs.Job.{Job}
use Rattle.widl_engine.specs.declared.jobs.Job.TheVariants as job
use Rattle.widl_engine.specs.declared.moves.Move.TheVariants as move
use Rattle.widl_engine.specs.Frames.{program_of}
use Rattle.widl_engine.proofs.Coming.{fits_known}
use Rattle.widl_engine.proofs.Leading.{at_continued, continues}
use Rattle.widl_engine.proofs.machine.Machine.talks_or_goes_on.Goals as goal

pub talks-requires-clause-fits : goal.talks-requires-clause-fits
talks-requires-clause-fits c = fits_known (program_of c.args.tables.now c.args.script.now) c.args.script.now c.args.store.now c.args.self.now c.args.next (move.Steps c.in-Steps.frame (job.Function c.in-Function.call)) (c.in-Steps.is ∙ ap (λ (j : Job). move.Steps c.in-Steps.frame j) c.in-Function.is) c.requires.fits

pub returns-in-Function : goal.returns-in-Function
returns-in-Function c = at_continued (program_of c.args.tables.now c.args.script.now) c.args.script.now c.args.store.now c.args.store.now c.args.next (move.Steps c.in-Steps.frame (job.Function c.in-Function.call)) c.args.self.now c.talks.new.self c.talks.result (c.in-Steps.is ∙ ap (λ (j : Job). move.Steps c.in-Steps.frame j) c.in-Function.is) (continues (program_of c.args.tables.now c.args.script.now) c.args.script.now c.args.store.now c.args.store.now (move.Steps c.in-Steps.frame (job.Function c.in-Function.call)) c.args.self.now c.talks.new.self c.talks.result c.talks.ensures)

pub returns-in_default-job : goal.returns-in_default-job
returns-in_default-job c = at_continued (program_of c.args.tables.now c.args.script.now) c.args.script.now c.args.store.now c.args.store.now c.args.next (move.Steps c.in-Steps.frame c.in-Steps.job) c.args.self.now c.args.self.now c.more.result c.in-Steps.is (c.more.ensures (program_of c.args.tables.now c.args.script.now) c.args.script.now c.args.store.now c.args.self.now)

pub returns-in_default : goal.returns-in_default
returns-in_default c = c.more-in_default.ensures (program_of c.args.tables.now c.args.script.now) c.args.script.now c.args.store.now c.args.self.now
