use Rattle.widl_idl.specs.MergingRules.{BreaksMerging, merging_number}
use Rattle.widl_idl.specs.PlainTrees.{plain_definitions}
use Rattle.widl_idl.specs.declared.merging_rule.MergingRule.TheVariants as rule
use Rattle.widl_idl.proofs.Steps.{first_rule_by}
use Rattle.widl_merge.proofs.merging.join_names.Goals as goal

pub returns : goal.returns
returns c = λ others earliest.
    let b = BreaksMerging (plain_definitions c.args.meanings.now) in
    first_rule_by merging_number b rule.SecondDefinition _ _ _ _ _ c.number-7.ensures c.first_second_definition-found.ensures c.joined.ensures
    (first_rule_by merging_number b rule.ReservedName _ _ _ _ _ c.number-6.ensures c.requires.reserved c.joined-best-6.ensures
    (first_rule_by merging_number b rule.PartialWithoutMain _ _ _ _ _ c.number-5.ensures c.first_partial_without_main-found.ensures c.joined-best-5.ensures
    (first_rule_by merging_number b rule.IncludesIntoNoInterface _ _ _ _ _ c.number-4.ensures c.first_includes_into_no_interface-found.ensures c.joined-best-4.ensures
    (first_rule_by merging_number b rule.IncludesNoMixin _ _ _ _ _ c.number-3.ensures c.first_includes_no_mixin-found.ensures c.joined-best-3.ensures
    (first_rule_by merging_number b rule.ParentOfOtherKind _ _ _ _ _ c.number-2.ensures c.first_parent_of_other_kind-found.ensures c.joined-best-2.ensures
    (first_rule_by merging_number b rule.UnknownType others _ _ _ _ c.number.ensures c.requires.unknown c.joined-best.ensures earliest))))))
