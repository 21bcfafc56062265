use Rattle.widl_engine.specs.Frames.{program_of}
use Rattle.widl_engine.specs.Machine.{Leads, moves_on}
use Rattle.widl_engine.proofs.Measuring.{measure}
use Rattle.widl_engine.proofs.machine.Machine.advance.Given as goal

abbrev pub invariant-moves : goal.invariant-moves
invariant-moves l = Leads (program_of l.tables l.script) l.script l.fn.store (moves_on (program_of l.tables l.script) l.script l.fn.first l.fn.self) l.fn.self l.store (moves_on (program_of l.tables l.script) l.script l.current l.self) l.self

abbrev pub decreases-moves : goal.decreases-moves
decreases-moves l = measure (program_of l.tables l.script) l.script l.store l.self l.current
