use Rattle.std.proofs.Common.{arith, ap, ◌∙◌}
use Rattle.widl_idl.specs.PlainTrees.{definition_of}
use Rattle.widl_names.specs.KindNumbers.{count_of}
use Rattle.widl_names.specs.Listings.{listed_definitions}
use Rattle.widl_names.proofs.KindNumbers.{counts_fit, counts_more, counts_start, numbers_more, numbers_start}
use Rattle.widl_names.proofs.kind_numbers.number_kinds.Goals as goal

pub loop-definition-init : goal.loop-definition-init
loop-definition-init c = record {
  counts = counts_start c.none-counts.result c.none-counts.ensures;
  numbers = numbers_start (listed_definitions c.args.definitions.now) c.new-numbers.result.items c.new-numbers.ensures.items;
}

pub loop-definition-preserved : goal.loop-definition-preserved
loop-definition-preserved c = record {
  counts = counts_more (λ d. definition_of d.now) c.args.definitions.now c.loop-definition.definition-index c.definition-item.result (omega arith) c.definition-item.is c.loop-definition.counts _ c.loop-definition.invariant.counts c.with-counts.ensures;
  numbers = numbers_more (λ d. definition_of d.now) c.args.definitions.now c.loop-definition.definition-index c.definition-item.result (omega arith) c.definition-item.is c.loop-definition.numbers.items _ c.loop-definition.counts c.count.result c.loop-definition.invariant.numbers c.loop-definition.invariant.counts (c.count.ensures ∙ ap (count_of c.loop-definition.counts) c.kind_of.ensures) c.in_ok-push.ensures.items;
}

pub with-counts-requires : goal.with-counts-requires
with-counts-requires c = counts_fit (λ d. definition_of d.now) c.args.definitions.now c.loop-definition.definition-index c.definition-item.result (omega arith) c.definition-item.is c.loop-definition.counts c.loop-definition.invariant.counts c.requires.few
