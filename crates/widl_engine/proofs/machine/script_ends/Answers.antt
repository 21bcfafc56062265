use Rattle.std.proofs.Common.{subst, sym}
use Rattle.widl_dialog.specs.Runs.{Ended}
use Rattle.widl_engine.specs.declared.ends.JobEnd.{JobEnd}
use Rattle.widl_engine.specs.Frames.{job_end_of}
use Rattle.widl_engine.specs.Machine.{RunsTo, moves_on}
use Rattle.widl_engine.proofs.machine.script_ends.Goals as goal

pub returns-in-Ok-clause-leads : goal.returns-in-Ok-clause-leads
returns-in-Ok-clause-leads c p s t d m n x = subst (λ (e : JobEnd). RunsTo p s t d m t n (Ended (job_end_of e))) (sym c.in-Ok.ensures.ok) x

pub returns-in-Ok-clause-turns : goal.returns-in-Ok-clause-turns
returns-in-Ok-clause-turns c p s t current m n x = subst (λ (e : JobEnd). RunsTo p s t (moves_on p s current m) m t n (Ended (job_end_of e))) (sym c.in-Ok.ensures.ok) x
