use Rattle.std.proofs.Common.{subst}
use Rattle.widl_idl.specs.First.{FirstWhere}
use Rattle.widl_idl.specs.MergingRules.{BreaksMerging, merging_number}
use Rattle.widl_idl.specs.PlainTrees.{plain_definitions}
use Rattle.widl_idl.specs.declared.merging_rule.MergingRule.TheVariants as rule
use Rattle.widl_idl.proofs.Steps.{first_rule_by, no_rules}
use Rattle.widl_merge.proofs.merging.join_members.Goals as goal

pub returns : goal.returns
returns c =
    let b = BreaksMerging (plain_definitions c.args.scope.now) in
    let past = subst (λ ds. FirstWhere (BreaksMerging (plain_definitions ds) rule.TooManyMembers) c.in_ok-found.found) c.meanings.ensures c.in_ok-found.ensures in
    first_rule_by merging_number b rule.OperationInTwoParts _ _ _ _ _ c.number-2.ensures c.in_ok-found-2.ensures c.joined.ensures
    (first_rule_by merging_number b rule.TooManyMembers _ _ _ _ _ c.number.ensures past c.joined-best.ensures (no_rules merging_number b))
