use Rattle.std.proofs.Common.{◌≡◌, ◌++◌, map, take}
use Rattle.std.specs.List.{flat_map}
use Rattle.widl_idl.specs.DefinitionTerms.{defs_term, op_name_term}
use Rattle.widl_sets.specs.Listing.{operation_lines}
use Rattle.widl_sets.proofs.listing.push_operations.Given as goal

abbrev pub invariant-loop-number : goal.invariant-loop-number
invariant-loop-number l = l.text.items ≡ l.initial.text.items ++ flat_map (operation_lines (defs_term l.defs) l.name) (map op_name_term (take l.number l.ops))
