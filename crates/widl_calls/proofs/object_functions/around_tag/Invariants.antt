use Rattle.std.proofs.Common.{◌≡◌, ◌++◌, codes, take}
use Rattle.widl_calls.proofs.object_functions.around_tag.Given as goal

abbrev pub invariant-loop-unit : goal.invariant-loop-unit
invariant-loop-unit l = l.units ≡ codes "[object " ++ take l.unit-index l.unit-items
