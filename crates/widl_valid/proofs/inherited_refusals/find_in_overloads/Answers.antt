use Rattle.widl_idl.specs.DefinitionTerms.{defs_term}
use Rattle.widl_idl.proofs.Steps.{first_rule, no_rules}
use Rattle.widl_overload.specs.rules.Validity.{BreaksRule, validity_number}
use Rattle.widl_overload.specs.declared.validity_rule.ValidityRule.TheVariants as rule
use Rattle.widl_valid.proofs.inherited_refusals.find_in_overloads.Goals as goal

pub returns : goal.returns
returns c = λ definitions.
    let b = BreaksRule (defs_term c.args.defs.now) definitions in
    first_rule validity_number b rule.IndistinguishableOverloads _ _ _ _ c.in_ok-found.ensures.indistinguishable c.first.ensures
    (first_rule validity_number b rule.EarlyDifference _ _ _ _ c.in_ok-found.ensures.early c.first-best.ensures (no_rules validity_number b))
