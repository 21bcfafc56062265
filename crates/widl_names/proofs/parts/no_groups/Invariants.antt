use Rattle.std.proofs.Common.{◌≡◌, [], replicate}
use Rattle.widl_names.proofs.parts.no_groups.Given as goal

abbrev pub invariant-loop-i : goal.invariant-loop-i
invariant-loop-i g l = l.groups.items ≡ replicate l._i []
