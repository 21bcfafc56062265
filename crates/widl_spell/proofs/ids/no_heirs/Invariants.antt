use Rattle.std.proofs.Common.{◌≡◌, [], replicate}
use Rattle.widl_spell.proofs.ids.no_heirs.Given as goal

abbrev pub invariant-loop-number : goal.invariant-loop-number
invariant-loop-number l = l.heirs.items ≡ replicate l._number []
