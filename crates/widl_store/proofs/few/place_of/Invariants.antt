use Rattle.std.proofs.Common.{ℕ, ◌≡◌, ◌≤◌, ◌-◌, drop, length}
use Rattle.widl_store.specs.Objects.{prop_at}
use Rattle.widl_store.proofs.few.place_of.Given as goal

abbrev pub invariant-loop-place : goal.invariant-loop-place
invariant-loop-place l = (l.place ≤ length l.entries) × (prop_at (drop l.place l.entries) l.key ≡ prop_at l.entries l.key)

abbrev pub decreases-loop-place : goal.decreases-loop-place
decreases-loop-place l = length l.entries - l.place
