use Rattle.std.proofs.Common.{◌≡◌, take, map}
use Rattle.widl_value.specs.IdlTerms.{idl_term, idl_terms}
use Rattle.widl_value.proofs.idl_values.IdlValues.copy.Given as goal

abbrev pub invariant-loop-item : goal.invariant-loop-item
invariant-loop-item l = idl_terms l.copy ≡ map idl_term (take l.item-index l.item-items)
