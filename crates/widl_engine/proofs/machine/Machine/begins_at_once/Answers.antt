use Rattle.std.proofs.Common.{ap}
use Rattle.widl_engine.specs.declared.jobs.Job.{Job}
use Rattle.widl_engine.specs.declared.jobs.Job.TheVariants as job
use Rattle.widl_engine.specs.declared.moves.Move.TheVariants as move
use Rattle.widl_engine.specs.Frames.{program_of}
use Rattle.widl_engine.proofs.Coming.{fits_known}
use Rattle.widl_engine.proofs.Leading.{at_move, continues}
use Rattle.widl_engine.proofs.machine.Machine.begins_at_once.Goals as goal

pub row-requires-clause-fits : goal.row-requires-clause-fits
row-requires-clause-fits c = fits_known (program_of c.args.tables.now c.args.script.now) c.args.script.now c.args.store.now c.args.self.now _ (move.Goes (job.Row c.in-Row.what c.in-Row.made c.in-Row.row)) (ap (λ (j : Job). move.Goes j) c.in-Row.is) c.requires.fits

pub calls-requires : goal.calls-requires
calls-requires c = record { fits = fits_known (program_of c.args.tables.now c.args.script.now) c.args.script.now c.args.store.now c.args.self.now _ (move.Goes (job.Call c.in-Call.calling c.in-Call.args)) (ap (λ (j : Job). move.Goes j) c.in-Call.is) c.requires.fits }

pub returns-in-Statements : goal.returns-in-Statements
returns-in-Statements c = continues (program_of c.args.tables.now c.args.script.now) c.args.script.now c.args.store.now c.args.store.now (move.Goes c.args.job) c.args.self.now c.statements.new.self c.statements.result (at_move (program_of c.args.tables.now c.args.script.now) c.args.script.now c.args.store.now c.args.store.now _ (move.Goes (job.Statements c.in-Statements.row)) c.args.self.now c.statements.new.self c.statements.result (ap (λ (j : Job). move.Goes j) c.in-Statements.is) (c.statements.ensures (program_of c.args.tables.now c.args.script.now) c.args.store.now))

pub returns-in-Row : goal.returns-in-Row
returns-in-Row c = continues (program_of c.args.tables.now c.args.script.now) c.args.script.now c.args.store.now c.args.store.now (move.Goes c.args.job) c.args.self.now c.row.new.self c.row.result (at_move (program_of c.args.tables.now c.args.script.now) c.args.script.now c.args.store.now c.args.store.now _ (move.Goes (job.Row c.in-Row.what c.in-Row.made c.in-Row.row)) c.args.self.now c.row.new.self c.row.result (ap (λ (j : Job). move.Goes j) c.in-Row.is) c.row.ensures)

pub returns-in-Call : goal.returns-in-Call
returns-in-Call c = continues (program_of c.args.tables.now c.args.script.now) c.args.script.now c.args.store.now c.args.store.now (move.Goes c.args.job) c.args.self.now c.calls.new.self c.calls.result (at_move (program_of c.args.tables.now c.args.script.now) c.args.script.now c.args.store.now c.args.store.now _ (move.Goes (job.Call c.in-Call.calling c.in-Call.args)) c.args.self.now c.calls.new.self c.calls.result (ap (λ (j : Job). move.Goes j) c.in-Call.is) c.calls.ensures)

pub returns-in_default : goal.returns-in_default
returns-in_default c = c.more.ensures (program_of c.args.tables.now c.args.script.now) c.args.script.now c.args.store.now c.args.self.now
