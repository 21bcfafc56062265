use Rattle.widl_engine.specs.declared.ends.JobEnd.TheVariants as job_end
use Rattle.widl_engine.specs.declared.moves.Move.TheVariants as move
use Rattle.widl_engine.specs.declared.ends.JobEnd.{JobEnd}
use Rattle.widl_engine.specs.Frames.{program_of}
use Rattle.widl_engine.proofs.Coming.{fits_known}
use Rattle.widl_engine.proofs.Leading.{at_move}
use Rattle.std.proofs.Common.{ap}
use Rattle.widl_engine.proofs.machine.Machine.gives.Goals as goal

pub completes-requires-clause-fits : goal.completes-requires-clause-fits
completes-requires-clause-fits c = fits_known (program_of c.args.tables.now c.args.script.now) c.args.script.now c.args.store.now c.args.self.now (move.Gives c.args.end) (move.Gives (job_end.Completed c.in-Completed.completion)) (ap (λ (e : JobEnd). move.Gives e) c.in-Completed.is) c.requires.fits

pub returns-in-Completed : goal.returns-in-Completed
returns-in-Completed c = at_move (program_of c.args.tables.now c.args.script.now) c.args.script.now c.args.store.now c.args.store.now (move.Gives c.args.end) (move.Gives (job_end.Completed c.in-Completed.completion)) c.args.self.now c.completes.new.self c.completes.result (ap (λ (e : JobEnd). move.Gives e) c.in-Completed.is) c.completes.ensures
