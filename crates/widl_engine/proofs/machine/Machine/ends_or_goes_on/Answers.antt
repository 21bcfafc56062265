use Rattle.std.proofs.Common.{◌∙◌, ap}
use Rattle.widl_engine.specs.declared.jobs.Job.{Job}
use Rattle.widl_engine.specs.declared.jobs.Job.TheVariants as job
use Rattle.widl_engine.specs.declared.moves.Move.TheVariants as move
use Rattle.widl_engine.specs.Frames.{program_of}
use Rattle.widl_engine.proofs.Coming.{fits_known}
use Rattle.widl_engine.proofs.Leading.{at_continued, at_move, continues}
use Rattle.widl_engine.proofs.machine.Machine.ends_or_goes_on.Goals as goal

pub gives-requires-clause-fits : goal.gives-requires-clause-fits
gives-requires-clause-fits c = fits_known (program_of c.args.tables.now c.args.script.now) c.args.script.now c.args.store.now c.args.self.now _ _ c.in-Gives.is c.requires.fits

pub returns-in-Gives : goal.returns-in-Gives
returns-in-Gives c =
    continues (program_of c.args.tables.now c.args.script.now) c.args.script.now c.args.store.now c.args.store.now c.args.next c.args.self.now c.gives.new.self c.gives.result
    (at_move (program_of c.args.tables.now c.args.script.now) c.args.script.now c.args.store.now c.args.store.now _ _ c.args.self.now c.gives.new.self c.gives.result c.in-Gives.is c.gives.ensures)

pub returns-in-Statements : goal.returns-in-Statements
returns-in-Statements c =
    continues (program_of c.args.tables.now c.args.script.now) c.args.script.now c.args.store.now c.args.store.now c.args.next c.args.self.now c.statements_under.new.self c.statements_under.result
    (at_move (program_of c.args.tables.now c.args.script.now) c.args.script.now c.args.store.now c.args.store.now _ (move.Steps c.in-Steps.frame (job.Statements c.in-Statements.row)) c.args.self.now c.statements_under.new.self c.statements_under.result (c.in-Steps.is ∙ ap (λ (j : Job). move.Steps c.in-Steps.frame j) c.in-Statements.is) (c.statements_under.ensures c.args.store.now))

pub returns-in_default-job : goal.returns-in_default-job
returns-in_default-job c = at_continued (program_of c.args.tables.now c.args.script.now) c.args.script.now c.args.store.now c.args.store.now c.args.next (move.Steps c.in-Steps.frame c.in-Steps.job) c.args.self.now c.args.self.now c.more.result c.in-Steps.is (c.more.ensures (program_of c.args.tables.now c.args.script.now) c.args.script.now c.args.store.now c.args.self.now)
