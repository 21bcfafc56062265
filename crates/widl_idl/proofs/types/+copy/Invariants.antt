use Rattle.std.proofs.Common.{◌≡◌, take, map}
use Rattle.widl_idl.specs.Terms.{type_term, type_terms}
use Rattle.widl_idl.proofs.types.+copy.Given as goal

abbrev pub invariant-IdlTypes::copy-loop-item : goal.invariant-IdlTypes::copy-loop-item
invariant-IdlTypes::copy-loop-item l = type_terms l.copy ≡ map type_term (take l.item-index l.item-items)
