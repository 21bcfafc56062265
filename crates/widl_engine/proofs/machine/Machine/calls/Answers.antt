use Rattle.std.proofs.Common.{◌∙◌, ap}
use Rattle.widl_runs.specs.Rules.{rule}
use Rattle.widl_engine.specs.declared.due.Due.{Due}
use Rattle.widl_engine.specs.declared.due.Due.TheVariants as due
use Rattle.widl_engine.specs.declared.jobs.Job.TheVariants as job
use Rattle.widl_engine.specs.declared.moves.Move.TheVariants as move
use Rattle.widl_engine.specs.Frames.{job_of, program_of}
use Rattle.widl_engine.proofs.Coming.{fits_move, fits_on}
use Rattle.widl_engine.proofs.Leading.{at_move, leads_is, stays_moved, stays_turns, then_continues, to_known, went}
use Rattle.widl_engine.proofs.machine.Machine.calls.Goals as goal

pub calls_body-requires : goal.calls_body-requires
calls_body-requires c = fits_move c.args.tables.now c.args.script.now c.args.store.now c.args.self.now c.call-next.result _ (c.in-Acts.is ∙ ap (λ (d : Due). move.Acts d) c.in-FindBody.is) (fits_on (program_of c.args.tables.now c.args.script.now) c.args.script.now (went (program_of c.args.tables.now c.args.script.now) c.args.script.now c.args.store.now c.args.self.now c.call-next.result (job.Call c.args.calling c.args.args) (leads_is (program_of c.args.tables.now c.args.script.now) c.args.script.now (rule (program_of c.args.tables.now c.args.script.now) (job_of c.args.script.now (job.Call c.args.calling c.args.args))) c.call-next.result (c.call-next.ensures (program_of c.args.tables.now c.args.script.now) c.args.script.now))).place c.requires.fits)

pub returns-in-FindBody : goal.returns-in-FindBody
returns-in-FindBody c =
    stays_turns (program_of c.args.tables.now c.args.script.now) c.args.script.now c.args.store.now c.args.store.now c.args.store.now (move.Goes (job.Call c.args.calling c.args.args)) c.call-next.result c.args.self.now c.args.self.now c.calls_body.new.self c.calls_body.result (stays_moved (went (program_of c.args.tables.now c.args.script.now) c.args.script.now c.args.store.now c.args.self.now c.call-next.result (job.Call c.args.calling c.args.args) (leads_is (program_of c.args.tables.now c.args.script.now) c.args.script.now (rule (program_of c.args.tables.now c.args.script.now) (job_of c.args.script.now (job.Call c.args.calling c.args.args))) c.call-next.result (c.call-next.ensures (program_of c.args.tables.now c.args.script.now) c.args.script.now))))
    (at_move (program_of c.args.tables.now c.args.script.now) c.args.script.now c.args.store.now c.args.store.now c.call-next.result (move.Acts (due.FindBody c.in-FindBody.f c.in-FindBody.this c.in-FindBody.args)) c.args.self.now c.calls_body.new.self c.calls_body.result (c.in-Acts.is ∙ ap (λ (d : Due). move.Acts d) c.in-FindBody.is) (c.calls_body.ensures (program_of c.args.tables.now c.args.script.now) c.args.script.now))

pub returns-in_default-due : goal.returns-in_default-due
returns-in_default-due c = then_continues (program_of c.args.tables.now c.args.script.now) c.args.script.now c.args.store.now c.args.store.now c.args.store.now (move.Goes (job.Call c.args.calling c.args.args)) (move.Acts c.in-Acts.due) c.args.self.now c.args.self.now c.args.self.now c.more.result (to_known (program_of c.args.tables.now c.args.script.now) c.args.script.now c.args.store.now c.args.store.now (move.Goes (job.Call c.args.calling c.args.args)) c.call-next.result (move.Acts c.in-Acts.due) c.args.self.now c.args.self.now c.in-Acts.is (went (program_of c.args.tables.now c.args.script.now) c.args.script.now c.args.store.now c.args.self.now c.call-next.result (job.Call c.args.calling c.args.args) (leads_is (program_of c.args.tables.now c.args.script.now) c.args.script.now (rule (program_of c.args.tables.now c.args.script.now) (job_of c.args.script.now (job.Call c.args.calling c.args.args))) c.call-next.result (c.call-next.ensures (program_of c.args.tables.now c.args.script.now) c.args.script.now)))) (c.more.ensures (program_of c.args.tables.now c.args.script.now) c.args.script.now c.args.store.now c.args.self.now)

pub returns-in_default : goal.returns-in_default
returns-in_default c = then_continues (program_of c.args.tables.now c.args.script.now) c.args.script.now c.args.store.now c.args.store.now c.args.store.now (move.Goes (job.Call c.args.calling c.args.args)) c.call-next.result c.args.self.now c.args.self.now c.args.self.now c.more-in_default.result (went (program_of c.args.tables.now c.args.script.now) c.args.script.now c.args.store.now c.args.self.now c.call-next.result (job.Call c.args.calling c.args.args) (leads_is (program_of c.args.tables.now c.args.script.now) c.args.script.now (rule (program_of c.args.tables.now c.args.script.now) (job_of c.args.script.now (job.Call c.args.calling c.args.args))) c.call-next.result (c.call-next.ensures (program_of c.args.tables.now c.args.script.now) c.args.script.now))) (c.more-in_default.ensures (program_of c.args.tables.now c.args.script.now) c.args.script.now c.args.store.now c.args.self.now)
