use Rattle.std.proofs.Common.{◌≡◌, take}
use Rattle.widl_merge.specs.ListedValues.{texts_of}
use Rattle.widl_merge.proofs.enumerations.texts_of.Given as goal

abbrev pub invariant-loop-value : goal.invariant-loop-value
invariant-loop-value l = l.texts ≡ texts_of (take l.value-index l.values)
