use Rattle.std.proofs.Common.{take}
use Rattle.widl_names.specs.Listings.{listed_definitions}
use Rattle.widl_merge.specs.Portions.{KeepsAdded}
use Rattle.widl_merge.proofs.sums.added_members.Given as goal

abbrev pub invariant-loop-definition : goal.invariant-loop-definition
invariant-loop-definition l = KeepsAdded l.added (listed_definitions (take l.definition-index l.definitions))
