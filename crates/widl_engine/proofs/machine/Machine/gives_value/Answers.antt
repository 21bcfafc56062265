use Rattle.std.proofs.Common.{◌∙◌, refl, ap, length-append, arith, [], ◌∷◌, ◌++◌, List, length}
use Rattle.widl_engine.specs.declared.ends.Completion.TheVariants as completions
use Rattle.widl_engine.specs.declared.ends.JobEnd.TheVariants.{Completed as completed}
use Rattle.widl_engine.specs.declared.frames.Frame.{Frame}
use Rattle.widl_engine.specs.declared.frames.Frame.TheVariants as frame
use Rattle.widl_engine.specs.declared.frames.ValueFrame.{ValueFrame}
use Rattle.widl_engine.specs.declared.frames.ValueFrame.TheVariants as goes_on
use Rattle.widl_engine.specs.declared.jobs.Job.TheVariants as job
use Rattle.widl_engine.specs.declared.machine.Machine.{Machine}
use Rattle.widl_engine.specs.declared.moves.Move.TheVariants as move
use Rattle.widl_engine.specs.Frames.{program_of}
use Rattle.widl_engine.specs.Machine.{moves_on}
use Rattle.widl_engine.proofs.Coming.{fits_on}
use Rattle.widl_engine.proofs.Going.{moves_lead, popped}
use Rattle.widl_engine.proofs.Leading.{continues, over, stays_here, stays_moved, stays_then, stays_turns, then_runs}
use Rattle.widl_engine.proofs.machine.Machine.gives_value.Goals as goal

pub ends-init : goal.ends-init
ends-init c = stays_here (program_of c.args.tables.now c.args.script.now) c.args.script.now c.args.store.now (moves_on (program_of c.args.tables.now c.args.script.now) c.args.script.now (move.Gives (completed (completions.Normal c.args.value))) c.args.self.now) c.args.self.now

pub ends-smaller : goal.ends-smaller
ends-smaller c =
    let e = ap (λ (l : List Frame). length l) c.in-Some.ensures.some in
    let h = length-append c.pop.new.frames.items (c.in-Some.frame ∷ []) in
    omega (arith, e, h)

pub ends-preserved : goal.ends-preserved
ends-preserved c = stays_moved (stays_then c.ends.invariant (popped (program_of c.args.tables.now c.args.script.now) c.args.script.now c.args.store.now c.ends.self _ (frame.Value goes_on.Drops) (completed (completions.Normal c.ends.value)) refl refl refl (c.in-Some.ensures.some ∙ ap (λ (f : Frame). c.pop.new.frames.items ++ f ∷ []) (c.in-Value.is ∙ ap (λ (f : ValueFrame). frame.Value f) c.in-Drops.is))))

pub goes_back-requires-clause-fits : goal.goes_back-requires-clause-fits
goes_back-requires-clause-fits c = fits_on (program_of c.args.tables.now c.args.script.now) c.args.script.now (stays_then c.ends.invariant (popped (program_of c.args.tables.now c.args.script.now) c.args.script.now c.args.store.now c.ends.self _ (frame.Value c.in-Value.frame) (completed (completions.Normal c.ends.value)) refl refl refl (c.in-Some.ensures.some ∙ ap (λ (f : Frame). c.pop.new.frames.items ++ f ∷ []) (c.in-Value.is)))).place c.requires.fits

pub goes_back-requires-in_default : goal.goes_back-requires-in_default
goes_back-requires-in_default c = record { read = c.requires.read; fits = fits_on (program_of c.args.tables.now c.args.script.now) c.args.script.now (stays_then c.ends.invariant (popped (program_of c.args.tables.now c.args.script.now) c.args.script.now c.args.store.now c.ends.self _ c.in-Some.frame (completed (completions.Normal c.ends.value)) refl refl refl c.in-Some.ensures.some)).place c.requires.fits }

pub returns-in-None : goal.returns-in-None
returns-in-None c = let n : Machine = record { due = c.ends.self.due; frames = c.pop.new.frames; place = c.ends.self.place; taken = c.ends.self.taken; budget = c.ends.self.budget } in c.script_ends.ensures.turns (program_of c.args.tables.now c.args.script.now) c.args.script.now c.args.store.now (move.Gives (completed (completions.Normal c.args.value))) c.args.self.now n (then_runs c.ends.invariant.place (over (program_of c.args.tables.now c.args.script.now) c.args.script.now c.args.store.now c.ends.self n (completed (completions.Normal c.ends.value)) refl refl c.in-None.ensures.none.0))

pub returns-in-NextStatements : goal.returns-in-NextStatements
returns-in-NextStatements c = let n : Machine = record { due = c.ends.self.due; frames = c.pop.new.frames; place = c.ends.self.place; taken = c.ends.self.taken; budget = c.ends.self.budget } in stays_turns (program_of c.args.tables.now c.args.script.now) c.args.script.now c.args.store.now c.args.store.now c.args.store.now (move.Gives (completed (completions.Normal c.args.value))) (move.Gives (completed (completions.Normal c.ends.value))) c.args.self.now c.ends.self c.statements.new.self c.statements.result c.ends.invariant (moves_lead (program_of c.args.tables.now c.args.script.now) c.args.script.now c.args.store.now c.args.store.now c.args.store.now (move.Gives (completed (completions.Normal c.ends.value))) _ c.ends.self n c.statements.new.self c.statements.result (popped (program_of c.args.tables.now c.args.script.now) c.args.script.now c.args.store.now c.ends.self n (frame.Value (goes_on.NextStatements c.in-NextStatements.rest)) (completed (completions.Normal c.ends.value)) refl refl refl (c.in-Some.ensures.some ∙ ap (λ (f : Frame). c.pop.new.frames.items ++ f ∷ []) (c.in-Value.is ∙ ap (λ (f : ValueFrame). frame.Value f) c.in-NextStatements.is))) (continues (program_of c.args.tables.now c.args.script.now) c.args.script.now c.args.store.now c.args.store.now (move.Goes (job.Statements c.in-NextStatements.rest)) n c.statements.new.self c.statements.result (c.statements.ensures (program_of c.args.tables.now c.args.script.now) c.args.store.now)))

pub returns-in_default-frame : goal.returns-in_default-frame
returns-in_default-frame c = stays_turns (program_of c.args.tables.now c.args.script.now) c.args.script.now c.args.store.now c.args.store.now c.args.store.now (move.Gives (completed (completions.Normal c.args.value))) (move.Gives (completed (completions.Normal c.ends.value))) c.args.self.now c.ends.self c.goes_back.new.self c.goes_back.result c.ends.invariant (moves_lead (program_of c.args.tables.now c.args.script.now) c.args.script.now c.args.store.now c.args.store.now c.args.store.now (move.Gives (completed (completions.Normal c.ends.value))) _ c.ends.self _ c.goes_back.new.self c.goes_back.result (popped (program_of c.args.tables.now c.args.script.now) c.args.script.now c.args.store.now c.ends.self _ (frame.Value c.in-Value.frame) (completed (completions.Normal c.ends.value)) refl refl refl (c.in-Some.ensures.some ∙ ap (λ (f : Frame). c.pop.new.frames.items ++ f ∷ []) (c.in-Value.is))) c.goes_back.ensures)

pub returns-in_default : goal.returns-in_default
returns-in_default c = stays_turns (program_of c.args.tables.now c.args.script.now) c.args.script.now c.args.store.now c.args.store.now c.args.store.now (move.Gives (completed (completions.Normal c.args.value))) (move.Gives (completed (completions.Normal c.ends.value))) c.args.self.now c.ends.self c.goes_back-in_default.new.self c.goes_back-in_default.result c.ends.invariant (moves_lead (program_of c.args.tables.now c.args.script.now) c.args.script.now c.args.store.now c.args.store.now c.args.store.now (move.Gives (completed (completions.Normal c.ends.value))) _ c.ends.self _ c.goes_back-in_default.new.self c.goes_back-in_default.result (popped (program_of c.args.tables.now c.args.script.now) c.args.script.now c.args.store.now c.ends.self _ c.in-Some.frame (completed (completions.Normal c.ends.value)) refl refl refl c.in-Some.ensures.some) c.goes_back-in_default.ensures)
