use Rattle.std.proofs.Common.{None, refl}
use Rattle.widl_idl.specs.PlainTrees.{AttributeMember, attribute_member_of, plain_definitions}
use Rattle.widl_idl.specs.Nodes.{MemberNode}
use Rattle.widl_idl.proofs.Steps.{first_rule}
use Rattle.widl_overload.specs.rules.Validity.{validity_number}
use Rattle.widl_overload.specs.declared.validity_rule.ValidityRule.TheVariants as rule
use Rattle.widl_overload.specs.rules.OnMembers.{BreaksNode}
use Rattle.widl_refusals.proofs.FirstRefusals.{Breaking}
use Rattle.widl_member_rules.proofs.TypedMembers.{no_owner_rule}
use Rattle.widl_member_rules.proofs.member_types.find_in_attribute.Goals as goal

pub returns : goal.returns
returns c =
    let definitions = plain_definitions c.args.resolver.now in
    let attribute = MemberNode (AttributeMember (attribute_member_of c.args.attribute.now)) in
    let b : Breaking = λ which. BreaksNode definitions which attribute in
    first_rule validity_number b rule.OtherConstantValue _ None _ _ (λ s h. h) refl
    (first_rule validity_number b rule.WritablePromise _ _ _ _ c.in_ok-found-2.ensures c.first.ensures
    (first_rule validity_number b rule.Stringifiers _ _ _ _ c.in_ok-found.ensures c.first-best.ensures (no_owner_rule definitions attribute)))
