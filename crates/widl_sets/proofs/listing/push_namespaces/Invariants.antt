use Rattle.std.proofs.Common.{◌≡◌, ◌++◌, map, take}
use Rattle.std.specs.List.{flat_map}
use Rattle.widl_idl.specs.DefinitionTerms.{defs_term, space_term}
use Rattle.widl_sets.specs.Listing.{namespace_lines}
use Rattle.widl_sets.proofs.listing.push_namespaces.Given as goal

abbrev pub invariant-loop-number : goal.invariant-loop-number
invariant-loop-number l = l.text.items ≡ l.initial.text.items ++ flat_map (namespace_lines (defs_term l.defs)) (map space_term (take l.number l.space-items))
