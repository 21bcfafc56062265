use Rattle.std.proofs.Common.{◌∙◌}
use Rattle.widl_inheritance.proofs.HoldingNodes.{item_within, members_more, members_start}
use Rattle.widl_inheritance.proofs.holding.add_members.Goals as goal

pub loop-dict-init : goal.loop-dict-init
loop-dict-init c = members_start c.args.dicts.now c.args.graph.now c.requires.graph

pub links_of-requires-clause-within : goal.links_of-requires-clause-within
links_of-requires-clause-within c = item_within c.args.dicts.now c.loop-dict.dict-index c.dict-item.result c.loop-dict-test.true c.dict-item.is c.requires.within

pub loop-dict-preserved : goal.loop-dict-preserved
loop-dict-preserved c =
    members_more c.args.dicts.now c.loop-dict.dict-index c.dict-item.result c.loop-dict.graph c.add_linked.new.self c.as_slice.result.now c.loop-dict-test.true c.dict-item.is c.loop-dict.invariant c.in_ok-add_linked.ensures
    (c.as_slice.ensures.value ∙ c.in_ok-links.ensures) (item_within c.args.dicts.now c.loop-dict.dict-index c.dict-item.result c.loop-dict-test.true c.dict-item.is c.requires.within)
