use Rattle.widl_engine.specs.declared.charges.Charge.TheVariants as charge
use Rattle.widl_engine.specs.declared.charges.Unit.TheVariants as unit
use Rattle.widl_engine.specs.declared.frames.Frame.TheVariants as frame
use Rattle.widl_engine.specs.declared.jobs.Job.TheVariants as job
use Rattle.widl_engine.specs.declared.moves.Move.TheVariants as move
use Rattle.widl_engine.specs.AtOnce.{binding}
use Rattle.widl_engine.specs.Frames.{program_of}
use Rattle.widl_engine.proofs.Going.{charge_leads, fits_paid}
use Rattle.widl_engine.proofs.Leading.{continues}
use Rattle.widl_engine.proofs.machine.Machine.performs.Goals as goal

pub returns-in-Some : goal.returns-in-Some
returns-in-Some c = charge_leads (program_of c.args.tables.now c.args.script.now) c.args.script.now c.args.store.now c.args.store.now (charge.Unit (unit.Statement c.args.place)) (binding c.in-Some.literal) c.args.self.now c.bind_literal.new.self c.bind_literal.result (c.in-Some.ensures.performs (program_of c.args.tables.now c.args.script.now)) (c.bind_literal.ensures (program_of c.args.tables.now c.args.script.now) c.args.store.now)

pub evaluates-requires-clause-fits : goal.evaluates-requires-clause-fits
evaluates-requires-clause-fits c = fits_paid (program_of c.args.tables.now c.args.script.now) c.args.script.now c.args.store.now (charge.Unit (unit.Statement c.args.place)) (move.Steps (frame.Value c.in-Some-evaluated_at.evaluation.frame) (job.Evaluate c.in-Some-evaluated_at.evaluation.place)) c.args.self.now (c.in-Some-evaluated_at.ensures.performs (program_of c.args.tables.now c.args.script.now)) c.requires.fits

pub returns-in-Some-evaluated_at : goal.returns-in-Some-evaluated_at
returns-in-Some-evaluated_at c = charge_leads (program_of c.args.tables.now c.args.script.now) c.args.script.now c.args.store.now c.args.store.now (charge.Unit (unit.Statement c.args.place)) (move.Steps (frame.Value c.in-Some-evaluated_at.evaluation.frame) (job.Evaluate c.in-Some-evaluated_at.evaluation.place)) c.args.self.now c.evaluates.new.self c.evaluates.result (c.in-Some-evaluated_at.ensures.performs (program_of c.args.tables.now c.args.script.now)) (continues (program_of c.args.tables.now c.args.script.now) c.args.script.now c.args.store.now c.args.store.now (move.Steps (frame.Value c.in-Some-evaluated_at.evaluation.frame) (job.Evaluate c.in-Some-evaluated_at.evaluation.place)) c.args.self.now c.evaluates.new.self c.evaluates.result c.evaluates.ensures)

pub returns-in-None-evaluated_at : goal.returns-in-None-evaluated_at
returns-in-None-evaluated_at c = c.leads.ensures (program_of c.args.tables.now c.args.script.now) c.args.store.now c.args.self.now
