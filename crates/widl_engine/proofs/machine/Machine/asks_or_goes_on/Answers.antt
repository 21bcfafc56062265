use Rattle.std.proofs.Common.{◌∙◌, ap}
use Rattle.widl_engine.specs.declared.ends.JobEnd.{JobEnd}
use Rattle.widl_engine.specs.declared.ends.JobEnd.TheVariants as job_end
use Rattle.widl_engine.specs.declared.jobs.Job.{Job}
use Rattle.widl_engine.specs.declared.jobs.Job.TheVariants as job
use Rattle.widl_engine.specs.declared.moves.Move.TheVariants as move
use Rattle.widl_engine.specs.Frames.{program_of}
use Rattle.widl_engine.proofs.Coming.{fits_known}
use Rattle.widl_engine.proofs.Leading.{at_continued, continues}
use Rattle.widl_engine.proofs.machine.Machine.asks_or_goes_on.Goals as goal

pub asks-requires-clause-fits : goal.asks-requires-clause-fits
asks-requires-clause-fits c = fits_known (program_of c.args.tables.now c.args.script.now) c.args.script.now c.args.store.now c.args.self.now c.args.next (move.Steps c.in-Steps.frame (job.Asked c.in-Asked.ask)) (c.in-Steps.is ∙ ap (λ (j : Job). move.Steps c.in-Steps.frame j) c.in-Asked.is) c.requires.fits

pub returns-in-Asked : goal.returns-in-Asked
returns-in-Asked c = at_continued (program_of c.args.tables.now c.args.script.now) c.args.script.now c.args.store.now c.args.store.now c.args.next (move.Steps c.in-Steps.frame (job.Asked c.in-Asked.ask)) c.args.self.now c.asks.new.self c.asks.result (c.in-Steps.is ∙ ap (λ (j : Job). move.Steps c.in-Steps.frame j) c.in-Asked.is) (continues (program_of c.args.tables.now c.args.script.now) c.args.script.now c.args.store.now c.args.store.now (move.Steps c.in-Steps.frame (job.Asked c.in-Asked.ask)) c.args.self.now c.asks.new.self c.asks.result c.asks.ensures)

pub returns-in_default-job : goal.returns-in_default-job
returns-in_default-job c = at_continued (program_of c.args.tables.now c.args.script.now) c.args.script.now c.args.store.now c.args.store.now c.args.next (move.Steps c.in-Steps.frame c.in-Steps.job) c.args.self.now c.args.self.now c.more.result c.in-Steps.is (c.more.ensures (program_of c.args.tables.now c.args.script.now) c.args.script.now c.args.store.now c.args.self.now)

pub ends_conversation-requires-clause-fits : goal.ends_conversation-requires-clause-fits
ends_conversation-requires-clause-fits c = fits_known (program_of c.args.tables.now c.args.script.now) c.args.script.now c.args.store.now c.args.self.now c.args.next (move.Gives (job_end.Talked c.in-Talked.ending)) (c.in-Gives.is ∙ ap (λ (e : JobEnd). move.Gives e) c.in-Talked.is) c.requires.fits

pub returns-in-Talked : goal.returns-in-Talked
returns-in-Talked c = at_continued (program_of c.args.tables.now c.args.script.now) c.args.script.now c.args.store.now c.args.store.now c.args.next (move.Gives (job_end.Talked c.in-Talked.ending)) c.args.self.now c.ends_conversation.new.self c.ends_conversation.result (c.in-Gives.is ∙ ap (λ (e : JobEnd). move.Gives e) c.in-Talked.is) c.ends_conversation.ensures

pub returns-in_default-end : goal.returns-in_default-end
returns-in_default-end c = at_continued (program_of c.args.tables.now c.args.script.now) c.args.script.now c.args.store.now c.args.store.now c.args.next (move.Gives c.in-Gives.end) c.args.self.now c.args.self.now c.more-in_default-end.result c.in-Gives.is (c.more-in_default-end.ensures (program_of c.args.tables.now c.args.script.now) c.args.script.now c.args.store.now c.args.self.now)
