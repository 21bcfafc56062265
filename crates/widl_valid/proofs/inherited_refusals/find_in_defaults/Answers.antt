use Rattle.widl_idl.specs.DefinitionTerms.{defs_term}
use Rattle.widl_idl.specs.PlainTrees.{plain_definitions}
use Rattle.widl_idl.proofs.Steps.{first_rule, no_rules}
use Rattle.widl_overload.specs.rules.Validity.{BreaksRule, validity_number}
use Rattle.widl_overload.specs.declared.validity_rule.ValidityRule.TheVariants as rule
use Rattle.widl_valid.proofs.inherited_refusals.find_in_defaults.Goals as goal

pub returns : goal.returns
returns c =
    let b = BreaksRule (defs_term c.args.defs.now) (plain_definitions c.args.scope.now) in
    first_rule validity_number b rule.OtherDefault _ _ _ _ c.in_ok-found-2.ensures c.first.ensures
    (first_rule validity_number b rule.NoEmptyDefault _ _ _ _ c.in_ok-found.ensures c.first-best.ensures (no_rules validity_number b))
