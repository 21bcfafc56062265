use Rattle.std.proofs.Common.{rules}
use Rattle.widl_runs.specs.Rules.{rule}
use Rattle.widl_engine.specs.declared.jobs.Job.TheVariants as job
use Rattle.widl_engine.specs.declared.moves.Move.TheVariants as move
use Rattle.widl_engine.specs.Frames.{job_of}
use Rattle.widl_engine.proofs.Leading.{leads_is, then_continues, went}
use Rattle.widl_engine.proofs.machine.Machine.statements.Goals as goal

pub returns-then-not-begin_with_unit : goal.returns-then-not-begin_with_unit
returns-then-not-begin_with_unit c p t = then_continues p c.args.script.now t t t (move.Goes (job.Statements c.args.row)) c.run_statements.result c.args.self.now c.args.self.now c.args.self.now c.more.result (went p c.args.script.now t c.args.self.now c.run_statements.result (job.Statements c.args.row) (leads_is p c.args.script.now (rule p (job_of c.args.script.now (job.Statements c.args.row))) c.run_statements.result (c.run_statements.ensures p))) (c.more.ensures p c.args.script.now t c.args.self.now)

pub returns-in-Ok : goal.returns-in-Ok
returns-in-Ok c p t = c.in-Ok.ensures p c.args.script.now t (c.begin_with_unit.ensures (search rules))
