use Rattle.std.proofs.Common.{◌≡◌, ◌++◌, ◌-◌, drop, length}
use Rattle.widl_steps.specs.Results.{properties}
use Rattle.widl_convert.proofs.containers.properties.Given as goal

abbrev pub invariant-loop-place : goal.invariant-loop-place
invariant-loop-place l = l.entries ++ properties (drop l.place l.names) (drop l.place l.made) ≡ properties l.fn.names l.fn.made

abbrev pub decreases-loop-place : goal.decreases-loop-place
decreases-loop-place l = length l.names - l.place
