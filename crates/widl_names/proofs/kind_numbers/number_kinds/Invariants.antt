use Rattle.std.proofs.Common.{take}
use Rattle.widl_names.specs.KindNumbers.{AreCounts, AreFirstNumbers}
use Rattle.widl_names.specs.Listings.{listed_definitions}
use Rattle.widl_names.proofs.kind_numbers.number_kinds.Given as goal

abbrev pub invariant-loop-definition : goal.invariant-loop-definition
invariant-loop-definition l = record {
  counts : AreCounts (listed_definitions (take l.definition-index l.definitions)) l.counts;
  numbers : AreFirstNumbers (listed_definitions l.definitions) l.definition-index l.numbers.items;
}
