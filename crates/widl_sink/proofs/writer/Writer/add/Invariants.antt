use Rattle.std.proofs.Common.{◌≡◌, ℕ, ◌+◌, ◌*◌, List, ◌++◌, length}
use Rattle.widl_sink.specs.Growth.{Sends}
use Rattle.widl_sink.proofs.writer.Writer.add.Given as goal

abbrev pub invariant-loop-rest : goal.invariant-loop-rest
invariant-loop-rest g l = (done : List ℕ) × (l.fn.bytes ≡ done ++ l.rest)
    × Sends (g.K.Sink.held l.initial.out) (g.K.Sink.held l.out) l.initial.self done l.self
    × (g.K.Sink.faults l.out ≡ g.K.Sink.faults l.initial.out)

abbrev pub decreases-loop-rest : goal.decreases-loop-rest
decreases-loop-rest g l = 2 * length l.rest + length l.self
