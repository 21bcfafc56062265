use Rattle.widl_idl.specs.MergingRules.{BreaksMerging, merging_number}
use Rattle.widl_idl.specs.PlainTrees.{plain_definitions}
use Rattle.widl_idl.specs.declared.merging_rule.MergingRule.TheVariants as rule
use Rattle.widl_idl.proofs.Steps.{first_rule_by}
use Rattle.widl_merge.proofs.merging.join_links.Goals as goal

pub returns : goal.returns
returns c = λ others earliest.
    let b = BreaksMerging (plain_definitions c.args.meanings.now) in
    first_rule_by merging_number b rule.InheritsFromItself _ _ _ _ _ c.number-3.ensures c.in_ok-found.ensures c.joined.ensures
    (first_rule_by merging_number b rule.TypedefReachesItself _ _ _ _ _ c.number-2.ensures c.first_typedef_reaching_itself-found.ensures c.joined-best-2.ensures
    (first_rule_by merging_number b rule.NestsTooDeep others _ _ _ _ c.number.ensures c.requires.violations.deep c.joined-best.ensures earliest))
