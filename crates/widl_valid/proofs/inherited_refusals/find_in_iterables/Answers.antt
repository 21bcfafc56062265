use Rattle.widl_idl.specs.PlainTrees.{plain_definitions}
use Rattle.widl_idl.proofs.Steps.{first_rule, no_rules}
use Rattle.widl_overload.specs.rules.Validity.{BreaksRule, validity_number}
use Rattle.widl_overload.specs.declared.validity_rule.ValidityRule.TheVariants as rule
use Rattle.widl_valid.proofs.inherited_refusals.find_in_iterables.Goals as goal

pub returns : goal.returns
returns c = λ list.
    let b = BreaksRule list (plain_definitions c.args.scope.now) in
    first_rule validity_number b rule.SecondIterable _ _ _ _ c.in_ok-found.ensures.second c.first.ensures
    (first_rule validity_number b rule.HiddenIterationMethod _ _ _ _ c.in_ok-found.ensures.hidden c.first-best.ensures (no_rules validity_number b))
