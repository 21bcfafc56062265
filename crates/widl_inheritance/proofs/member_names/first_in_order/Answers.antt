use Rattle.std.proofs.Common.{arith, map, ap, get_or, rules}
use Rattle.widl_idl.specs.DefinitionTerms.{dict_term}
use Rattle.widl_inheritance.specs.MemberEnds.{end_of}
use Rattle.widl_inheritance.proofs.Inheriting.{nothing_visited, visited_all, visited_more}
use Rattle.widl_inheritance.proofs.member_names.first_in_order.Goals as goal

pub loop-number-init : goal.loop-number-init
loop-number-init c = nothing_visited (map dict_term c.args.dicts.now) c.args.spans.now.by_node.items c.args.spans.now.order.items (end_of c.new-ends.result) (search rules)

pub loop-number-preserved : goal.loop-number-preserved
loop-number-preserved c =
    visited_more (map dict_term c.args.dicts.now) c.args.spans.now.by_node.items c.args.spans.now.order.items c.requires.spans c.requires.whole (end_of c.loop-number.ends) (end_of c.visit.new.ends) c.loop-number.number-index _ c.loop-number.best c.in_ok-found.found c.earlier_violation-best.result
    (omega arith) (ap (λ xs. get_or xs c.loop-number.number-index 0) c.deref-number-items.ensures.value) c.in_ok-found.ensures.keeps c.in_ok-found.ensures.found c.earlier_violation-best.ensures c.loop-number.invariant

pub returns : goal.returns
returns c = visited_all (map dict_term c.args.dicts.now) c.args.spans.now.by_node.items c.args.spans.now.order.items c.requires.spans c.requires.whole (end_of c.loop-number.ends) c.loop-number.number-index c.loop-number.best (omega arith) c.loop-number.invariant
