use Rattle.std.proofs.Common.{◌∙◌, refl, ap, sym, [], ◌∷◌, ◌++◌}
use Rattle.widl_engine.specs.declared.ends.JobEnd.TheVariants as job_end
use Rattle.widl_engine.specs.declared.frames.Frame.{Frame}
use Rattle.widl_engine.specs.declared.frames.Frame.TheVariants as frame
use Rattle.widl_engine.specs.declared.machine.Machine.{Machine}
use Rattle.widl_engine.specs.declared.moves.Move.TheVariants as move
use Rattle.widl_engine.specs.Frames.{job_end_of, program_of}
use Rattle.widl_engine.proofs.Coming.{fits_on}
use Rattle.widl_engine.proofs.Going.{end_leads, fits_ended, moves_lead, popped, stays_lead}
use Rattle.widl_engine.proofs.Leading.{continues, over}
use Rattle.widl_engine.proofs.Straight.{stays_back}
use Rattle.widl_engine.proofs.machine.Machine.ends_conversation.Goals as goal

pub returns-in-None : goal.returns-in-None
returns-in-None c = let n : Machine = record { due = c.args.self.now.due; frames = c.pop.new.frames; place = c.args.self.now.place; taken = c.args.self.now.taken; budget = c.args.self.now.budget } in c.script_ends.ensures.leads (program_of c.args.tables.now c.args.script.now) c.args.script.now c.args.store.now _ c.args.self.now n (over (program_of c.args.tables.now c.args.script.now) c.args.script.now c.args.store.now c.args.self.now n (job_end.Talked c.args.ending) refl refl c.in-None.ensures.none.0)

pub goes_on-requires-clause-fits : goal.goes_on-requires-clause-fits
goes_on-requires-clause-fits c = let n : Machine = record { due = c.args.self.now.due; frames = c.pop.new.frames; place = c.args.self.now.place; taken = c.args.self.now.taken; budget = c.args.self.now.budget } in fits_ended (program_of c.args.tables.now c.args.script.now) c.args.script.now c.args.store.now frame.Talked (job_end_of (job_end.Talked c.args.ending)) c.talked.result n (c.talked.ensures (program_of c.args.tables.now c.args.script.now) c.args.script.now) (fits_on (program_of c.args.tables.now c.args.script.now) c.args.script.now (popped (program_of c.args.tables.now c.args.script.now) c.args.script.now c.args.store.now c.args.self.now n frame.Talked (job_end.Talked c.args.ending) refl refl refl (c.in-Some.ensures.some ∙ ap (λ (f : Frame). c.pop.new.frames.items ++ f ∷ []) c.in-Talked.is)).place c.requires.fits)

pub returns-in-Talked : goal.returns-in-Talked
returns-in-Talked c = let n : Machine = record { due = c.args.self.now.due; frames = c.pop.new.frames; place = c.args.self.now.place; taken = c.args.self.now.taken; budget = c.args.self.now.budget } in continues (program_of c.args.tables.now c.args.script.now) c.args.script.now c.args.store.now c.args.store.now (move.Gives (job_end.Talked c.args.ending)) c.args.self.now c.goes_on.new.self c.goes_on.result (moves_lead (program_of c.args.tables.now c.args.script.now) c.args.script.now c.args.store.now c.args.store.now c.args.store.now (move.Gives (job_end.Talked c.args.ending)) _ c.args.self.now n c.goes_on.new.self c.goes_on.result (popped (program_of c.args.tables.now c.args.script.now) c.args.script.now c.args.store.now c.args.self.now n frame.Talked (job_end.Talked c.args.ending) refl refl refl (c.in-Some.ensures.some ∙ ap (λ (f : Frame). c.pop.new.frames.items ++ f ∷ []) c.in-Talked.is)) (end_leads (program_of c.args.tables.now c.args.script.now) c.args.script.now c.args.store.now c.args.store.now frame.Talked (job_end_of (job_end.Talked c.args.ending)) c.talked.result n c.goes_on.new.self c.goes_on.result (c.talked.ensures (program_of c.args.tables.now c.args.script.now) c.args.script.now) c.goes_on.ensures))

pub returns-in-Ok : goal.returns-in-Ok
returns-in-Ok c = let n : Machine = record { due = c.args.self.now.due; frames = c.push.new.frames; place = c.args.self.now.place; taken = c.args.self.now.taken; budget = c.args.self.now.budget } in stays_lead (program_of c.args.tables.now c.args.script.now) c.args.script.now c.args.store.now c.args.store.now c.args.store.now _ _ c.args.self.now n n c.more.result (stays_back (program_of c.args.tables.now c.args.script.now) c.args.script.now c.args.store.now c.args.self.now n (job_end.Talked c.args.ending) refl (c.in-Ok.ensures ∙ sym c.in-Some.ensures.some) refl refl) (c.more.ensures (program_of c.args.tables.now c.args.script.now) c.args.script.now c.args.store.now n)
