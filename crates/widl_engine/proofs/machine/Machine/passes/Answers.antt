use Rattle.std.proofs.Common.{refl}
use Rattle.widl_engine.specs.declared.machine.Machine.{Machine}
use Rattle.widl_engine.specs.declared.moves.Move.TheVariants as move
use Rattle.widl_engine.specs.Frames.{program_of}
use Rattle.widl_engine.proofs.Coming.{fits_on}
use Rattle.widl_engine.proofs.Going.{moves_lead, popped}
use Rattle.widl_engine.proofs.Leading.{over}
use Rattle.widl_engine.proofs.machine.Machine.passes.Goals as goal

pub goes_back-requires-clause-fits : goal.goes_back-requires-clause-fits
goes_back-requires-clause-fits c = fits_on (program_of c.args.tables.now c.args.script.now) c.args.script.now (popped (program_of c.args.tables.now c.args.script.now) c.args.script.now c.args.store.now c.args.self.now _ c.in-Some.frame c.args.end refl refl refl c.in-Some.ensures.some).place c.requires.fits

pub returns-in-Some : goal.returns-in-Some
returns-in-Some c = moves_lead (program_of c.args.tables.now c.args.script.now) c.args.script.now c.args.store.now c.args.store.now c.args.store.now (move.Gives c.args.end) _ c.args.self.now _ c.goes_back.new.self c.goes_back.result (popped (program_of c.args.tables.now c.args.script.now) c.args.script.now c.args.store.now c.args.self.now _ c.in-Some.frame c.args.end refl refl refl c.in-Some.ensures.some) c.goes_back.ensures

pub returns-in-None : goal.returns-in-None
returns-in-None c = let n : Machine = record { due = c.args.self.now.due; frames = c.pop.new.frames; place = c.args.self.now.place; taken = c.args.self.now.taken; budget = c.args.self.now.budget } in c.script_ends.ensures.turns (program_of c.args.tables.now c.args.script.now) c.args.script.now c.args.store.now (move.Gives c.args.end) c.args.self.now n (over (program_of c.args.tables.now c.args.script.now) c.args.script.now c.args.store.now c.args.self.now n c.args.end refl refl c.in-None.ensures.none.0)
