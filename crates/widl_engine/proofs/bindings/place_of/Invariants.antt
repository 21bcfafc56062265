use Rattle.std.proofs.Common.{◌-◌, length}
use Rattle.widl_engine.specs.Bound.{NoneBefore}
use Rattle.widl_engine.proofs.bindings.place_of.Given as goal

abbrev pub invariant-each : goal.invariant-each
invariant-each l = NoneBefore l.name l.bound l.place

abbrev pub decreases-each : goal.decreases-each
decreases-each l = length l.bound - l.place
