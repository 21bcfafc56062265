use Rattle.std.proofs.Common.{◌≡◌, List, ℕ, map, take}
use Rattle.widl_idl.specs.DefinitionTerms.{op_name_term}
use Rattle.widl_script_rules.specs.Lookups.{operation_in, operation_there}
use Rattle.widl_script_rules.proofs.overloads.operations_of.Given as goal

abbrev pub invariant-ops : goal.invariant-ops
invariant-ops l = (text : List ℕ) → operation_in l.operations text ≡ operation_there (take l.operation-index (map op_name_term l.space.ops)) text
