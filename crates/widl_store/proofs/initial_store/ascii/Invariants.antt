use Rattle.std.proofs.Common.{◌≡◌, take}
use Rattle.widl_store.proofs.initial_store.ascii.Given as goal

abbrev pub invariant-loop-byte : goal.invariant-loop-byte
invariant-loop-byte l = l.units ≡ take l.byte-index l.byte-items
