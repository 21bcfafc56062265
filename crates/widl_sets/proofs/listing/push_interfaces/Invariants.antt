use Rattle.std.proofs.Common.{◌≡◌, ◌++◌, take}
use Rattle.std.specs.List.{flat_map}
use Rattle.widl_idl.specs.DefinitionTerms.{defs_term}
use Rattle.widl_sets.specs.Listing.{lines_at}
use Rattle.widl_sets.proofs.listing.push_interfaces.Given as goal

abbrev pub invariant-loop-number : goal.invariant-loop-number
invariant-loop-number l = l.text.items ≡ l.initial.text.items ++ flat_map (lines_at (defs_term l.defs)) (take l.number-index l.order)
