use Rattle.std.proofs.Common.{◌≡◌, take}
use Rattle.widl_store.proofs.few.add_copies.Given as goal

abbrev pub invariant-loop-label : goal.invariant-loop-label
invariant-loop-label l = l.map ≡ take l.label-index l.entries
