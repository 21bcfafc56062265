use Rattle.std.specs.Prelude.{length}
use Rattle.widl_engine.specs.declared.ends.Completion.TheVariants as completions
use Rattle.widl_engine.specs.declared.ends.JobEnd.TheVariants.{Completed as completed}
use Rattle.widl_engine.specs.declared.moves.Move.TheVariants as move
use Rattle.widl_engine.specs.Frames.{program_of}
use Rattle.widl_engine.specs.Machine.{Stays, moves_on}
use Rattle.widl_engine.proofs.machine.Machine.returns.Given as goal

abbrev pub invariant-ends : goal.invariant-ends
invariant-ends l = Stays (program_of l.tables l.script) l.script l.store (moves_on (program_of l.tables l.script) l.script (move.Gives (completed (completions.Returned l.fn.value))) l.fn.self) l.fn.self l.store (moves_on (program_of l.tables l.script) l.script (move.Gives (completed (completions.Returned l.fn.value))) l.self) l.self

abbrev pub decreases-ends : goal.decreases-ends
decreases-ends l = length l.self.frames.items
