use Rattle.std.proofs.Common.{IfOk, None, refl, subst, sym}
use Rattle.widl_idl.specs.First.{FirstWhere}
use Rattle.widl_idl.specs.PlainTrees.{ConstantMember, constant_of, member_kind_of, plain_definitions}
use Rattle.widl_idl.specs.Nodes.{MemberNode}
use Rattle.widl_idl.proofs.Steps.{first_rule}
use Rattle.widl_overload.specs.rules.Validity.{validity_number}
use Rattle.widl_overload.specs.declared.validity_rule.ValidityRule.TheVariants as rule
use Rattle.widl_overload.specs.rules.OnMembers.{BreaksNode, member_rules}
use Rattle.widl_overload.specs.rules.TypeRules.{HasOtherValue}
use Rattle.widl_refusals.specs.Refusals.{IsFirst}
use Rattle.widl_refusals.proofs.FirstRefusals.{Breaking}
use Rattle.widl_member_rules.proofs.TypedMembers.{no_owner_rule}
use Rattle.widl_member_rules.proofs.member_types.find_in_member.Goals as goal

pub returns-in_ok-found-in-Constant : goal.returns-in_ok-found-in-Constant
returns-in_ok-found-in-Constant c =
    let definitions = plain_definitions c.args.resolver.now in
    let constant = MemberNode (ConstantMember (constant_of c.in-Constant.constant.value)) in
    let b : Breaking = λ which. BreaksNode definitions which constant in
    subst (λ kind. IsFirst (λ which. BreaksNode definitions which (MemberNode (member_kind_of kind))) member_rules c.first.result) (sym c.in-Constant.is)
    (first_rule validity_number b rule.OtherConstantValue _ _ _ _ (subst (λ k. FirstWhere (HasOtherValue definitions (MemberNode (ConstantMember (constant_of k)))) c.in_ok-found-in-Constant.found) c.deref.ensures c.in_ok-found-in-Constant.ensures) c.first.ensures
    (first_rule validity_number b rule.WritablePromise _ None None None (λ s h. h) refl
    (first_rule validity_number b rule.Stringifiers _ None None None (λ s h. h) refl (no_owner_rule definitions constant))))

pub returns-in-Attribute : goal.returns-in-Attribute
returns-in-Attribute c =
    subst (λ kind. IfOk c.find_in_attribute.result (λ found. IsFirst (λ which. BreaksNode (plain_definitions c.args.resolver.now) which (MemberNode (member_kind_of kind))) member_rules found)) (sym c.in-Attribute.is) c.find_in_attribute.ensures
