use Rattle.std.proofs.Common.{◌≡◌, take, map}
use Rattle.widl_type_rules.specs.Lineages.{lineage_of}
use Rattle.widl_type_rules.proofs.lineages.Lineages.spans_of.Given as goal

abbrev pub invariant-loop-number : goal.invariant-loop-number
invariant-loop-number l = l.spans.items ≡ map (lineage_of l.self.spans.items) (take l.number-index l.numbers)
