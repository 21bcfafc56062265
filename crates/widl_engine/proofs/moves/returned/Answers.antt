use Rattle.std.proofs.Common.{ap, sym}
use Rattle.std.specs.declared.result.Result.TheVariants as results
use Rattle.widl_runs.specs.Jobs.{Program}
use Rattle.widl_script_tree.specs.Tables.{Tables}
use Rattle.widl_engine.specs.declared.frames.Frame.{Frame}
use Rattle.widl_engine.specs.Frames.{back_to, job_end_of, program_of}
use Rattle.widl_engine.proofs.Beginning.{leads_by, leads_over}
use Rattle.widl_engine.proofs.Talking.{leads_same}
use Rattle.widl_engine.proofs.moves.returned.Goals as goal

pub returns-in-Value : goal.returns-in-Value
returns-in-Value c = leads_by c.args.tables.now c.args.script.now (λ (p : Program) (f : Frame). back_to p c.args.script.now f (job_end_of c.args.end)) c.args.frame _ c.gone_on.result c.in-Value.is c.gone_on.ensures

pub returns-in-Catches : goal.returns-in-Catches
returns-in-Catches c = leads_by c.args.tables.now c.args.script.now (λ (p : Program) (f : Frame). back_to p c.args.script.now f (job_end_of c.args.end)) c.args.frame _ (results.Ok c.caught.result) c.in-Catches.is c.caught.ensures

pub returns-in-Called : goal.returns-in-Called
returns-in-Called c = leads_by c.args.tables.now c.args.script.now (λ (p : Program) (f : Frame). back_to p c.args.script.now f (job_end_of c.args.end)) c.args.frame _ (results.Ok c.called.result) c.in-Called.is (λ p. c.called.ensures p c.args.script.now)

pub returns-in-Talked : goal.returns-in-Talked
returns-in-Talked c = leads_by c.args.tables.now c.args.script.now (λ (p : Program) (f : Frame). back_to p c.args.script.now f (job_end_of c.args.end)) c.args.frame _ (results.Ok c.talked.result) c.in-Talked.is (λ p. c.talked.ensures p c.args.script.now)

pub returns-in-Last : goal.returns-in-Last
returns-in-Last c = leads_over c.args.tables.now c.args.script.now (λ (p : Program) (s : Tables) (f : Frame). back_to p s f (job_end_of c.args.end)) c.args.frame _ c.last_line.result c.in-Last.is c.last_line.ensures

pub returns-in-Suspended : goal.returns-in-Suspended
returns-in-Suspended c = leads_same c.args.tables.now c.args.script.now _ _ c.answered.result (ap (λ (f : Frame). back_to (program_of c.args.tables.now c.args.script.now) c.args.script.now f (job_end_of c.args.end)) (sym c.in-Suspended.is)) c.answered.ensures
