use Rattle.std.proofs.Common.{◌≡◌, ◌-◌}
use Rattle.widl_engine.specs.Frames.{program_of}
use Rattle.widl_engine.specs.Output.{output}
use Rattle.widl_engine.specs.Running.{Stands}
use Rattle.widl_engine.proofs.runs.take_charges.Given as goal

abbrev pub invariant-charges : goal.invariant-charges
invariant-charges g l = record {
  stands : Stands (program_of l.tables l.script) l.script l.fn.store l.budget (output (g.K.Sink.held l.fn.out) l.fn.writer) l.store l.machine (output (g.K.Sink.held l.out) l.writer) l.events;
  same : g.K.Sink.faults l.out ≡ g.K.Sink.faults l.fn.out;
}

abbrev pub decreases-charges : goal.decreases-charges
decreases-charges g l = l.budget - l.machine.taken
