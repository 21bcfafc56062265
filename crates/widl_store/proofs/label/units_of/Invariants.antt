use Rattle.std.proofs.Common.{◌≡◌, take}
use Rattle.widl_store.proofs.label.units_of.Given as goal

abbrev pub invariant-loop-unit : goal.invariant-loop-unit
invariant-loop-unit l = l.units ≡ take l.unit-index l.text
