use Rattle.std.proofs.Common.{◌∙◌, ap}
use Rattle.widl_engine.specs.declared.jobs.Job.{Job}
use Rattle.widl_engine.specs.declared.jobs.Job.TheVariants as job
use Rattle.widl_engine.specs.declared.moves.Move.TheVariants as move
use Rattle.widl_engine.specs.Frames.{program_of}
use Rattle.widl_engine.proofs.Coming.{fits_known}
use Rattle.widl_engine.proofs.Leading.{at_continued, continues}
use Rattle.widl_engine.proofs.machine.Machine.goes_on_with_part.Goals as goal

pub evaluates_part-requires-clause-fits : goal.evaluates_part-requires-clause-fits
evaluates_part-requires-clause-fits c = fits_known (program_of c.args.tables.now c.args.script.now) c.args.script.now c.args.store.now c.args.self.now c.args.next (move.Steps c.in-Steps.frame (job.Evaluate c.in-Evaluate.place)) (c.in-Steps.is ∙ ap (λ (j : Job). move.Steps c.in-Steps.frame j) c.in-Evaluate.is) c.requires.fits

pub returns-in-Evaluate : goal.returns-in-Evaluate
returns-in-Evaluate c = at_continued (program_of c.args.tables.now c.args.script.now) c.args.script.now c.args.store.now c.args.store.now c.args.next (move.Steps c.in-Steps.frame (job.Evaluate c.in-Evaluate.place)) c.args.self.now c.evaluates_part.new.self c.evaluates_part.result (c.in-Steps.is ∙ ap (λ (j : Job). move.Steps c.in-Steps.frame j) c.in-Evaluate.is) (continues (program_of c.args.tables.now c.args.script.now) c.args.script.now c.args.store.now c.args.store.now (move.Steps c.in-Steps.frame (job.Evaluate c.in-Evaluate.place)) c.args.self.now c.evaluates_part.new.self c.evaluates_part.result c.evaluates_part.ensures)

pub returns-in_default-job : goal.returns-in_default-job
returns-in_default-job c = at_continued (program_of c.args.tables.now c.args.script.now) c.args.script.now c.args.store.now c.args.store.now c.args.next (move.Steps c.in-Steps.frame c.in-Steps.job) c.args.self.now c.args.self.now c.more.result c.in-Steps.is (c.more.ensures (program_of c.args.tables.now c.args.script.now) c.args.script.now c.args.store.now c.args.self.now)
