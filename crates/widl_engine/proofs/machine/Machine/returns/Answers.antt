use Rattle.std.proofs.Common.{◌∙◌, refl, ap, length-append, arith, [], ◌∷◌, ◌++◌, List, length}
use Rattle.widl_engine.specs.declared.ends.Completion.TheVariants as completions
use Rattle.widl_engine.specs.declared.ends.JobEnd.TheVariants.{Completed as completed}
use Rattle.widl_engine.specs.declared.frames.Frame.{Frame}
use Rattle.widl_engine.specs.declared.frames.Frame.TheVariants as frame
use Rattle.widl_engine.specs.declared.machine.Machine.{Machine}
use Rattle.widl_engine.specs.declared.moves.Move.TheVariants as move
use Rattle.widl_engine.specs.Frames.{program_of}
use Rattle.widl_engine.specs.Machine.{moves_on}
use Rattle.widl_engine.proofs.Coming.{fits_on}
use Rattle.widl_engine.proofs.Going.{end_leads, fits_ended, moves_lead, popped}
use Rattle.widl_engine.proofs.Leading.{over, stays_here, stays_moved, stays_then, stays_turns, then_runs}
use Rattle.widl_runs.specs.Ends.{Returned}
use Rattle.widl_engine.proofs.machine.Machine.returns.Goals as goal

pub ends-init : goal.ends-init
ends-init c = stays_here (program_of c.args.tables.now c.args.script.now) c.args.script.now c.args.store.now (moves_on (program_of c.args.tables.now c.args.script.now) c.args.script.now (move.Gives (completed (completions.Returned c.args.value))) c.args.self.now) c.args.self.now

pub ends-smaller : goal.ends-smaller
ends-smaller c =
    let e = ap (λ (l : List Frame). length l) c.in-Some.ensures.some in
    let h = length-append c.pop.new.frames.items (c.in-Some.frame ∷ []) in
    omega (arith, e, h)

pub ends-preserved : goal.ends-preserved
ends-preserved c = stays_moved (stays_then c.ends.invariant (popped (program_of c.args.tables.now c.args.script.now) c.args.script.now c.args.store.now c.ends.self _ (frame.Value c.in-Value.frame) (completed (completions.Returned c.args.value)) refl refl refl (c.in-Some.ensures.some ∙ ap (λ (f : Frame). c.pop.new.frames.items ++ f ∷ []) (c.in-Value.is))))

pub goes_on-requires-clause-fits : goal.goes_on-requires-clause-fits
goes_on-requires-clause-fits c = fits_ended (program_of c.args.tables.now c.args.script.now) c.args.script.now c.args.store.now frame.Called (Returned c.args.value) c.called.result _ (c.called.ensures (program_of c.args.tables.now c.args.script.now) c.args.script.now) (fits_on (program_of c.args.tables.now c.args.script.now) c.args.script.now (stays_then c.ends.invariant (popped (program_of c.args.tables.now c.args.script.now) c.args.script.now c.args.store.now c.ends.self _ frame.Called (completed (completions.Returned c.args.value)) refl refl refl (c.in-Some.ensures.some ∙ ap (λ (f : Frame). c.pop.new.frames.items ++ f ∷ []) (c.in-Called.is)))).place c.requires.fits)

pub goes_back-requires-clause-fits : goal.goes_back-requires-clause-fits
goes_back-requires-clause-fits c = fits_on (program_of c.args.tables.now c.args.script.now) c.args.script.now (stays_then c.ends.invariant (popped (program_of c.args.tables.now c.args.script.now) c.args.script.now c.args.store.now c.ends.self _ c.in-Some.frame (completed (completions.Returned c.args.value)) refl refl refl c.in-Some.ensures.some)).place c.requires.fits

pub returns-in-None : goal.returns-in-None
returns-in-None c = let n : Machine = record { due = c.ends.self.due; frames = c.pop.new.frames; place = c.ends.self.place; taken = c.ends.self.taken; budget = c.ends.self.budget } in c.script_ends.ensures.turns (program_of c.args.tables.now c.args.script.now) c.args.script.now c.args.store.now (move.Gives (completed (completions.Returned c.args.value))) c.args.self.now n (then_runs c.ends.invariant.place (over (program_of c.args.tables.now c.args.script.now) c.args.script.now c.args.store.now c.ends.self n (completed (completions.Returned c.args.value)) refl refl c.in-None.ensures.none.0))

pub returns-in-Called : goal.returns-in-Called
returns-in-Called c = let n : Machine = record { due = c.ends.self.due; frames = c.pop.new.frames; place = c.ends.self.place; taken = c.ends.self.taken; budget = c.ends.self.budget } in stays_turns (program_of c.args.tables.now c.args.script.now) c.args.script.now c.args.store.now c.args.store.now c.args.store.now (move.Gives (completed (completions.Returned c.args.value))) (move.Gives (completed (completions.Returned c.args.value))) c.args.self.now c.ends.self c.goes_on.new.self c.goes_on.result c.ends.invariant (moves_lead (program_of c.args.tables.now c.args.script.now) c.args.script.now c.args.store.now c.args.store.now c.args.store.now (move.Gives (completed (completions.Returned c.args.value))) _ c.ends.self n c.goes_on.new.self c.goes_on.result (popped (program_of c.args.tables.now c.args.script.now) c.args.script.now c.args.store.now c.ends.self n frame.Called (completed (completions.Returned c.args.value)) refl refl refl (c.in-Some.ensures.some ∙ ap (λ (f : Frame). c.pop.new.frames.items ++ f ∷ []) (c.in-Called.is))) (end_leads (program_of c.args.tables.now c.args.script.now) c.args.script.now c.args.store.now c.args.store.now frame.Called (Returned c.args.value) c.called.result n c.goes_on.new.self c.goes_on.result (c.called.ensures (program_of c.args.tables.now c.args.script.now) c.args.script.now) c.goes_on.ensures))

pub returns-in_default : goal.returns-in_default
returns-in_default c = stays_turns (program_of c.args.tables.now c.args.script.now) c.args.script.now c.args.store.now c.args.store.now c.args.store.now (move.Gives (completed (completions.Returned c.args.value))) (move.Gives (completed (completions.Returned c.args.value))) c.args.self.now c.ends.self c.goes_back.new.self c.goes_back.result c.ends.invariant (moves_lead (program_of c.args.tables.now c.args.script.now) c.args.script.now c.args.store.now c.args.store.now c.args.store.now (move.Gives (completed (completions.Returned c.args.value))) _ c.ends.self _ c.goes_back.new.self c.goes_back.result (popped (program_of c.args.tables.now c.args.script.now) c.args.script.now c.args.store.now c.ends.self _ c.in-Some.frame (completed (completions.Returned c.args.value)) refl refl refl c.in-Some.ensures.some) c.goes_back.ensures)
