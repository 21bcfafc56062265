use Rattle.std.proofs.Common.{◌≡◌, ℕ, List, ◌++◌, length}
use Rattle.std.specs.Io.KnownBytes.{append_known}
use Rattle.widl_sink.proofs.writer.write_all.Given as goal

abbrev pub invariant-loop-rest : goal.invariant-loop-rest
invariant-loop-rest g l = (done : List ℕ) × (l.fn.bytes ≡ done ++ l.rest)
    × (g.K.Sink.held l.out ≡ append_known (g.K.Sink.held l.initial.out) done)
    × (g.K.Sink.faults l.out ≡ g.K.Sink.faults l.initial.out)

abbrev pub decreases-loop-rest : goal.decreases-loop-rest
decreases-loop-rest g l = length l.rest
