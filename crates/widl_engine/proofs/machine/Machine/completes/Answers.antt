use Rattle.widl_engine.specs.declared.ends.Completion.{Completion}
use Rattle.widl_engine.specs.declared.ends.Completion.TheVariants as completions
use Rattle.widl_engine.specs.declared.ends.JobEnd.TheVariants.{Completed as completed}
use Rattle.widl_engine.specs.declared.moves.Move.TheVariants as move
use Rattle.widl_engine.specs.Frames.{program_of}
use Rattle.widl_engine.proofs.Coming.{fits_known}
use Rattle.widl_engine.proofs.Leading.{at_move}
use Rattle.std.proofs.Common.{ap}
use Rattle.widl_engine.proofs.machine.Machine.completes.Goals as goal

pub gives_value-requires-clause-fits : goal.gives_value-requires-clause-fits
gives_value-requires-clause-fits c = fits_known (program_of c.args.tables.now c.args.script.now) c.args.script.now c.args.store.now c.args.self.now (move.Gives (completed c.args.completion)) (move.Gives (completed (completions.Normal c.in-Normal.value))) (ap (λ (e : Completion). move.Gives (completed e)) c.in-Normal.is) c.requires.fits

pub returns-in-Normal : goal.returns-in-Normal
returns-in-Normal c = at_move (program_of c.args.tables.now c.args.script.now) c.args.script.now c.args.store.now c.args.store.now (move.Gives (completed c.args.completion)) (move.Gives (completed (completions.Normal c.in-Normal.value))) c.args.self.now c.gives_value.new.self c.gives_value.result (ap (λ (e : Completion). move.Gives (completed e)) c.in-Normal.is) c.gives_value.ensures

pub returns-requires-clause-fits : goal.returns-requires-clause-fits
returns-requires-clause-fits c = fits_known (program_of c.args.tables.now c.args.script.now) c.args.script.now c.args.store.now c.args.self.now (move.Gives (completed c.args.completion)) (move.Gives (completed (completions.Returned c.in-Returned.value))) (ap (λ (e : Completion). move.Gives (completed e)) c.in-Returned.is) c.requires.fits

pub returns-in-Returned : goal.returns-in-Returned
returns-in-Returned c = at_move (program_of c.args.tables.now c.args.script.now) c.args.script.now c.args.store.now c.args.store.now (move.Gives (completed c.args.completion)) (move.Gives (completed (completions.Returned c.in-Returned.value))) c.args.self.now c.returns.new.self c.returns.result (ap (λ (e : Completion). move.Gives (completed e)) c.in-Returned.is) c.returns.ensures
