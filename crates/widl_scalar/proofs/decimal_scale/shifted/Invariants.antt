use Rattle.std.proofs.Common.{◌≡◌, ◌+◌, ◌*◌, ◌^◌, ◌≤◌}
use Rattle.widl_scalar.proofs.decimal_scale.shifted.Given as goal

abbrev pub invariant-loop-left : goal.invariant-loop-left
invariant-loop-left l = (l.value * 10 ^ l.left ≡ l.kept * 10 ^ l.zeros) × (l.value ≤ 2 ^ 64 + 1)

abbrev pub decreases-loop-left : goal.decreases-loop-left
decreases-loop-left l = l.left
