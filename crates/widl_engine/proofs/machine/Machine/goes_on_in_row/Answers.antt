use Rattle.std.proofs.Common.{◌∙◌, ap}
use Rattle.widl_runs.specs.Rules.{rule}
use Rattle.widl_engine.specs.declared.jobs.Job.{Job}
use Rattle.widl_engine.specs.declared.jobs.Job.TheVariants as job
use Rattle.widl_engine.specs.declared.moves.Move.TheVariants as move
use Rattle.widl_engine.specs.Frames.{job_of, program_of}
use Rattle.widl_engine.proofs.Coming.{fits_known, fits_on}
use Rattle.widl_engine.proofs.Leading.{at_move, leads_is, stays_moved, stays_turns, then_continues, to_known, went}
use Rattle.widl_engine.proofs.machine.Machine.goes_on_in_row.Goals as goal

pub calls-requires : goal.calls-requires
calls-requires c = record { fits = fits_known (program_of c.args.tables.now c.args.script.now) c.args.script.now c.args.store.now c.args.self.now c.evaluate_row-next.result (move.Goes (job.Call c.in-Call.calling c.in-Call.args)) (c.in-Goes.is ∙ ap (λ (j : Job). move.Goes j) c.in-Call.is) (fits_on (program_of c.args.tables.now c.args.script.now) c.args.script.now (went (program_of c.args.tables.now c.args.script.now) c.args.script.now c.args.store.now c.args.self.now c.evaluate_row-next.result (job.Row c.args.what c.args.made c.args.row) (leads_is (program_of c.args.tables.now c.args.script.now) c.args.script.now (rule (program_of c.args.tables.now c.args.script.now) (job_of c.args.script.now (job.Row c.args.what c.args.made c.args.row))) c.evaluate_row-next.result (c.evaluate_row-next.ensures (program_of c.args.tables.now c.args.script.now)))).place c.requires.fits) }

pub returns-in-Call : goal.returns-in-Call
returns-in-Call c =
    stays_turns (program_of c.args.tables.now c.args.script.now) c.args.script.now c.args.store.now c.args.store.now c.args.store.now (move.Goes (job.Row c.args.what c.args.made c.args.row)) c.evaluate_row-next.result c.args.self.now c.args.self.now c.calls.new.self c.calls.result (stays_moved (went (program_of c.args.tables.now c.args.script.now) c.args.script.now c.args.store.now c.args.self.now c.evaluate_row-next.result (job.Row c.args.what c.args.made c.args.row) (leads_is (program_of c.args.tables.now c.args.script.now) c.args.script.now (rule (program_of c.args.tables.now c.args.script.now) (job_of c.args.script.now (job.Row c.args.what c.args.made c.args.row))) c.evaluate_row-next.result (c.evaluate_row-next.ensures (program_of c.args.tables.now c.args.script.now)))))
    (at_move (program_of c.args.tables.now c.args.script.now) c.args.script.now c.args.store.now c.args.store.now c.evaluate_row-next.result (move.Goes (job.Call c.in-Call.calling c.in-Call.args)) c.args.self.now c.calls.new.self c.calls.result (c.in-Goes.is ∙ ap (λ (j : Job). move.Goes j) c.in-Call.is) c.calls.ensures)

pub returns-in_default-job : goal.returns-in_default-job
returns-in_default-job c = then_continues (program_of c.args.tables.now c.args.script.now) c.args.script.now c.args.store.now c.args.store.now c.args.store.now (move.Goes (job.Row c.args.what c.args.made c.args.row)) (move.Goes c.in-Goes.job) c.args.self.now c.args.self.now c.args.self.now c.more.result (to_known (program_of c.args.tables.now c.args.script.now) c.args.script.now c.args.store.now c.args.store.now (move.Goes (job.Row c.args.what c.args.made c.args.row)) c.evaluate_row-next.result (move.Goes c.in-Goes.job) c.args.self.now c.args.self.now c.in-Goes.is (went (program_of c.args.tables.now c.args.script.now) c.args.script.now c.args.store.now c.args.self.now c.evaluate_row-next.result (job.Row c.args.what c.args.made c.args.row) (leads_is (program_of c.args.tables.now c.args.script.now) c.args.script.now (rule (program_of c.args.tables.now c.args.script.now) (job_of c.args.script.now (job.Row c.args.what c.args.made c.args.row))) c.evaluate_row-next.result (c.evaluate_row-next.ensures (program_of c.args.tables.now c.args.script.now))))) (c.more.ensures (program_of c.args.tables.now c.args.script.now) c.args.script.now c.args.store.now c.args.self.now)

pub returns-in_default : goal.returns-in_default
returns-in_default c = then_continues (program_of c.args.tables.now c.args.script.now) c.args.script.now c.args.store.now c.args.store.now c.args.store.now (move.Goes (job.Row c.args.what c.args.made c.args.row)) c.evaluate_row-next.result c.args.self.now c.args.self.now c.args.self.now c.more-in_default.result (went (program_of c.args.tables.now c.args.script.now) c.args.script.now c.args.store.now c.args.self.now c.evaluate_row-next.result (job.Row c.args.what c.args.made c.args.row) (leads_is (program_of c.args.tables.now c.args.script.now) c.args.script.now (rule (program_of c.args.tables.now c.args.script.now) (job_of c.args.script.now (job.Row c.args.what c.args.made c.args.row))) c.evaluate_row-next.result (c.evaluate_row-next.ensures (program_of c.args.tables.now c.args.script.now)))) (c.more-in_default.ensures (program_of c.args.tables.now c.args.script.now) c.args.script.now c.args.store.now c.args.self.now)
