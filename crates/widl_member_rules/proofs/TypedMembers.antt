-- By what the type of a member means no rule on the members of an owner is broken.
use Rattle.std.proofs.Common.{List, [], ◌∷◌, None, refl}
use Rattle.widl_idl.specs.Nodes.{Node}
use Rattle.widl_idl.specs.PlainTrees.{PlainDefinition}
use Rattle.widl_idl.proofs.Steps.{first_rule, no_rules}
use Rattle.widl_overload.specs.declared.validity_rule.ValidityRule.TheVariants as rule
use Rattle.widl_overload.specs.rules.Validity.{validity_number}
use Rattle.widl_overload.specs.rules.OnMembers.{BreaksNode}
use Rattle.widl_refusals.specs.Refusals.{IsFirst}
use Rattle.widl_refusals.proofs.FirstRefusals.{Breaking}

pub no_owner_rule : (definitions : List PlainDefinition) (node : Node) → IsFirst (λ which. BreaksNode definitions which node) (rule.PromisesAndOthers ∷ rule.RepeatedMember ∷ rule.KeptName ∷ rule.TooManyOverloads ∷ []) None
no_owner_rule definitions node =
    let b : Breaking = λ which. BreaksNode definitions which node in
    first_rule validity_number b rule.PromisesAndOthers _ None None None (λ s h. h) refl
    (first_rule validity_number b rule.RepeatedMember _ None None None (λ s h. h) refl
    (first_rule validity_number b rule.KeptName _ None None None (λ s h. h) refl
    (first_rule validity_number b rule.TooManyOverloads _ None None None (λ s h. h) refl (no_rules validity_number b))))
