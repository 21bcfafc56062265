use Rattle.std.proofs.Common.{◌∙◌, ap}
use Rattle.widl_engine.specs.declared.jobs.Job.{Job}
use Rattle.widl_engine.specs.declared.jobs.Job.TheVariants as job
use Rattle.widl_engine.specs.declared.moves.Move.TheVariants as move
use Rattle.widl_engine.specs.Frames.{program_of}
use Rattle.widl_engine.proofs.Coming.{fits_known, fits_stepped}
use Rattle.widl_engine.proofs.Leading.{at_move}
use Rattle.widl_engine.proofs.machine.Machine.turn.Goals as goal

pub acts-requires-clause-fits : goal.acts-requires-clause-fits
acts-requires-clause-fits c = fits_known (program_of c.args.tables.now c.args.script.now) c.args.script.now c.args.store.now c.args.self.now _ _ c.in-Acts.is c.requires.fits

pub gives-requires-clause-fits : goal.gives-requires-clause-fits
gives-requires-clause-fits c = fits_known (program_of c.args.tables.now c.args.script.now) c.args.script.now c.args.store.now c.args.self.now _ _ c.in-Gives.is c.requires.fits

pub evaluates-requires-clause-fits : goal.evaluates-requires-clause-fits
evaluates-requires-clause-fits c = fits_known (program_of c.args.tables.now c.args.script.now) c.args.script.now c.args.store.now c.args.self.now _ (move.Steps c.in-Steps.frame (job.Evaluate c.in-Evaluate.place)) (c.in-Steps.is ∙ ap (λ (j : Job). move.Steps c.in-Steps.frame j) c.in-Evaluate.is) c.requires.fits

pub begins-requires-clause-fits : goal.begins-requires-clause-fits
begins-requires-clause-fits c = fits_known (program_of c.args.tables.now c.args.script.now) c.args.script.now c.args.store.now c.args.self.now _ (move.Goes c.in-Goes.job) c.in-Goes.is c.requires.fits

pub steps-requires-clause-fits : goal.steps-requires-clause-fits
steps-requires-clause-fits c = fits_stepped (program_of c.args.tables.now c.args.script.now) c.args.script.now c.args.store.now c.args.self.now c.args.current c.in-Steps.frame c.in-Steps.job c.in-Steps.is c.requires.fits

pub returns-in-Pays : goal.returns-in-Pays
returns-in-Pays c = at_move (program_of c.args.tables.now c.args.script.now) c.args.script.now c.args.store.now c.args.store.now _ _ c.args.self.now c.rests.new.self c.rests.result c.in-Pays.is (c.rests.ensures (program_of c.args.tables.now c.args.script.now) c.args.script.now c.args.store.now)

pub returns-in-Acts : goal.returns-in-Acts
returns-in-Acts c = at_move (program_of c.args.tables.now c.args.script.now) c.args.script.now c.args.store.now c.acts.new.store _ _ c.args.self.now c.acts.new.self c.acts.result c.in-Acts.is c.acts.ensures

pub returns-in-Gives : goal.returns-in-Gives
returns-in-Gives c = at_move (program_of c.args.tables.now c.args.script.now) c.args.script.now c.args.store.now c.args.store.now _ _ c.args.self.now c.gives.new.self c.gives.result c.in-Gives.is c.gives.ensures

pub returns-in-Evaluate : goal.returns-in-Evaluate
returns-in-Evaluate c =
    at_move (program_of c.args.tables.now c.args.script.now) c.args.script.now c.args.store.now c.args.store.now _ (move.Steps c.in-Steps.frame (job.Evaluate c.in-Evaluate.place)) c.args.self.now c.evaluates.new.self c.evaluates.result
    (c.in-Steps.is ∙ ap (λ (j : Job). move.Steps c.in-Steps.frame j) c.in-Evaluate.is) c.evaluates.ensures

pub returns-in-Statements : goal.returns-in-Statements
returns-in-Statements c =
    at_move (program_of c.args.tables.now c.args.script.now) c.args.script.now c.args.store.now c.args.store.now _ (move.Steps c.in-Steps.frame (job.Statements c.in-Statements.row)) c.args.self.now c.statements_under.new.self c.statements_under.result
    (c.in-Steps.is ∙ ap (λ (j : Job). move.Steps c.in-Steps.frame j) c.in-Statements.is) (c.statements_under.ensures c.args.store.now)

pub returns-in_default : goal.returns-in_default
returns-in_default c = at_move (program_of c.args.tables.now c.args.script.now) c.args.script.now c.args.store.now c.args.store.now _ _ c.args.self.now c.steps.new.self c.steps.result c.in-Steps.is (c.steps.ensures c.args.store.now)

pub returns-in-Goes : goal.returns-in-Goes
returns-in-Goes c = at_move (program_of c.args.tables.now c.args.script.now) c.args.script.now c.args.store.now c.args.store.now _ (move.Goes c.in-Goes.job) c.args.self.now c.begins.new.self c.begins.result c.in-Goes.is c.begins.ensures
