use Rattle.std.proofs.Common.{ap}
use Rattle.widl_engine.specs.declared.frames.Frame.{Frame}
use Rattle.widl_engine.specs.declared.jobs.Job.TheVariants as job
use Rattle.widl_engine.specs.declared.moves.Move.TheVariants as move
use Rattle.widl_engine.specs.Frames.{program_of}
use Rattle.widl_engine.proofs.Coming.{fits_on}
use Rattle.widl_engine.proofs.Going.{moves_known}
use Rattle.widl_engine.proofs.Leading.{at_move, then_continues}
use Rattle.widl_engine.proofs.ValuesAtOnce.{gone_on, value_there}
use Rattle.widl_engine.proofs.machine.Machine.evaluates_part.Goals as goal

pub reads_or_goes_on-requires-clause-fits : goal.reads_or_goes_on-requires-clause-fits
reads_or_goes_on-requires-clause-fits c =
    fits_on (program_of c.args.tables.now c.args.script.now) c.args.script.now
    (moves_known (program_of c.args.tables.now c.args.script.now) c.args.script.now c.args.store.now c.args.store.now _ _ c.args.self.now _ c.args.self.now (ap (λ (f : Frame). move.Steps f (job.Evaluate c.args.place)) c.in-Value.is)
    (gone_on (program_of c.args.tables.now c.args.script.now) c.args.script.now c.args.store.now c.args.self.now c.in-Value.frame c.args.place c.in-Ok-Some.value c.in-Ok.next
    (value_there c.args.script.now c.args.store.now c.args.self.now.place c.args.place c.in-Ok-Some.field-0 c.in-Ok-Some.value c.in-Ok-Some.field-0-is c.in-Ok-Some.ensures (program_of c.args.tables.now c.args.script.now) c.requires.read)
    (c.in-Ok.ensures (program_of c.args.tables.now c.args.script.now)))).place
    c.requires.fits

pub returns-in-Ok : goal.returns-in-Ok
returns-in-Ok c =
    then_continues (program_of c.args.tables.now c.args.script.now) c.args.script.now c.args.store.now c.args.store.now c.args.store.now (move.Steps c.args.frame (job.Evaluate c.args.place)) c.in-Ok.next c.args.self.now c.args.self.now c.reads_or_goes_on.new.self c.reads_or_goes_on.result
    (moves_known (program_of c.args.tables.now c.args.script.now) c.args.script.now c.args.store.now c.args.store.now _ _ c.args.self.now _ c.args.self.now (ap (λ (f : Frame). move.Steps f (job.Evaluate c.args.place)) c.in-Value.is)
    (gone_on (program_of c.args.tables.now c.args.script.now) c.args.script.now c.args.store.now c.args.self.now c.in-Value.frame c.args.place c.in-Ok-Some.value c.in-Ok.next
    (value_there c.args.script.now c.args.store.now c.args.self.now.place c.args.place c.in-Ok-Some.field-0 c.in-Ok-Some.value c.in-Ok-Some.field-0-is c.in-Ok-Some.ensures (program_of c.args.tables.now c.args.script.now) c.requires.read)
    (c.in-Ok.ensures (program_of c.args.tables.now c.args.script.now))))
    c.reads_or_goes_on.ensures

pub returns-in-Ok-None : goal.returns-in-Ok-None
returns-in-Ok-None c = at_move (program_of c.args.tables.now c.args.script.now) c.args.script.now c.args.store.now c.args.store.now _ _ c.args.self.now c.steps.new.self c.steps.result (ap (λ (f : Frame). move.Steps f (job.Evaluate c.args.place)) c.in-Value.is) (c.steps.ensures c.args.store.now)

pub returns-in_default : goal.returns-in_default
returns-in_default c = c.steps-in_default.ensures c.args.store.now
