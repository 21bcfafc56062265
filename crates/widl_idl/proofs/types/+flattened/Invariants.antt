use Rattle.std.proofs.Common.{◌≡◌, ◌++◌, take, map}
use Rattle.widl_idl.specs.Flattened.{flattened_members}
use Rattle.widl_idl.specs.Terms.{packed, type_term, type_terms}
use Rattle.widl_idl.proofs.types.+flattened.Given as goal

abbrev pub invariant-IdlTypes::flatten_into-loop-t : goal.invariant-IdlTypes::flatten_into-loop-t
invariant-IdlTypes::flatten_into-loop-t l = type_terms l.members ≡ type_terms l.initial.members ++ flattened_members (packed (map type_term (take l.t-index l.t-items)))
