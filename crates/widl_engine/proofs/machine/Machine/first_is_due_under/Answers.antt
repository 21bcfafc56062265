use Rattle.std.proofs.Common.{refl}
use Rattle.widl_engine.specs.declared.jobs.Job.TheVariants as job
use Rattle.widl_engine.specs.declared.machine.Machine.{Machine}
use Rattle.widl_engine.proofs.Leading.{pushed, then_leads}
use Rattle.widl_engine.proofs.machine.Machine.first_is_due_under.Goals as goal

pub returns : goal.returns
returns c p s t begin =
    let under : Machine = record { due = c.args.self.now.due; frames = c.push.new.frames; place = c.args.self.now.place; taken = c.args.self.now.taken; budget = c.args.self.now.budget } in
    then_leads (pushed p s t c.args.self.now under c.args.frame (job.Statements c.args.row) refl refl refl c.in_ok-push.ensures) (c.in_ok-first_is_due.ensures p s t begin)
