-- Types of which no rule asks what they mean break at most the rule on the annotations of typedefs.
use Rattle.std.proofs.Common.{◌≡◌, true, List, Option, None, Some, refl}
use Rattle.std.specs.Prelude.{◌&&◌}
use Rattle.widl_idl.specs.declared.refusal.Refusal.{Refusal}
use Rattle.widl_idl.specs.declared.violation.Violation.{Violation}
use Rattle.widl_idl.specs.DefinitionTerms.{IfaceTerm}
use Rattle.widl_idl.specs.First.{FirstWhere}
use Rattle.widl_idl.specs.FirstRefusal.{join}
use Rattle.widl_idl.specs.PlainTrees.{PlainDefinition}
use Rattle.widl_idl.specs.PlainTypes.{PlainUndefined, PlainUnion, PlainType, plain_type}
use Rattle.widl_idl.specs.Terms.{TypeTerms}
use Rattle.widl_idl.proofs.Steps.{first_rule, no_rules}
use Rattle.widl_overload.specs.declared.type_role.TypeRole.{TypeRole}
use Rattle.widl_overload.specs.declared.type_role.TypeRole.TheVariants as role
use Rattle.widl_overload.specs.declared.validity_rule.ValidityRule.TheVariants as rule
use Rattle.widl_overload.specs.rules.MemberRules.{AtPlace}
use Rattle.widl_overload.specs.rules.OnTypes.{BreaksUse, type_rules}
use Rattle.widl_overload.specs.rules.TypeRules.{HasClampAndEnforceRange, HaveIndistinguishableMembers, HaveNullableAndDictionary, HaveSeveralNullable, OfUnion, is_argument_or_member_role, is_attribute_role, is_constant_role, is_member_role, is_undefined_word, is_written_union, question_of}
use Rattle.widl_overload.specs.rules.TypeUses.{TypeUse, meaning_of_use}
use Rattle.widl_overload.specs.rules.Validity.{validity_number}
use Rattle.widl_refusals.specs.Refusals.{IsFirst}
use Rattle.widl_refusals.proofs.FirstRefusals.{Breaking}
use Rattle.widl_type_rules.specs.SettledUses.{are_none}
use Rattle.widl_type_rules.specs.UnaskedUses.{is_bare, is_inner_role, is_unasked}
use Rattle.widl_type_rules.proofs.SettledUses.{both_true, none_is, nothing_listed}

no_constant : (r : TypeRole) → is_inner_role r ≡ true → is_constant_role r ≡ true → ⊥
no_constant role.Constant e h = cc
no_constant other e h = cc

no_attribute : (r : TypeRole) → is_inner_role r ≡ true → is_attribute_role r ≡ true → ⊥
no_attribute role.Attribute e h = cc
no_attribute other e h = cc

no_member : (r : TypeRole) → is_inner_role r ≡ true → is_member_role r ≡ true → ⊥
no_member role.UnionMember e h = cc
no_member other e h = cc

no_argument : (r : TypeRole) → is_inner_role r ≡ true → is_argument_or_member_role r ≡ true → ⊥
no_argument role.Argument e h = cc
no_argument role.DictionaryMember e h = cc
no_argument other e h = cc

no_undefined : (t : PlainType) → is_bare t ≡ true → is_undefined_word t ≡ true → ⊥
no_undefined (plain_type at PlainUndefined None) e h = cc
no_undefined (plain_type at form None) e h = cc
no_undefined (plain_type at form (Some question)) e h = cc

no_union : (t : PlainType) → is_bare t ≡ true → is_written_union t ≡ true → ⊥
no_union (plain_type at (PlainUnion members) None) e h = cc
no_union (plain_type at form None) e h = cc
no_union (plain_type at form (Some question)) e h = cc

no_question : (t : PlainType) (s : Violation) → is_bare t ≡ true → AtPlace (question_of t) s → ⊥
no_question (plain_type at form None) s e h = h
no_question (plain_type at form (Some question)) s e h = cc

module _ (ifaces : List IfaceTerm) (definitions : List PlainDefinition) (u : TypeUse) (e : is_unasked u ≡ true) where
  parts : (is_inner_role u.role && are_none u.attributes ≡ true) × (is_bare u.ty ≡ true)
  parts = both_true (is_inner_role u.role && are_none u.attributes) (is_bare u.ty) e

  first_parts : (is_inner_role u.role ≡ true) × (are_none u.attributes ≡ true)
  first_parts = both_true (is_inner_role u.role) (are_none u.attributes) parts.0

  of_no_union : (P : TypeTerms → Type 0) (s : Violation) → OfUnion P (meaning_of_use definitions u) u s → ⊥
  of_no_union P s h = no_union u.ty parts.1 h.0.0

  -- the first refusal is that of the one rule
  pub unasked_first : (found : Option Violation) (refusal : Option Refusal) → FirstWhere (HasClampAndEnforceRange definitions u) found → refusal ≡ join (validity_number rule.ClampAndEnforceRange) found None → IsFirst (λ which. BreaksUse ifaces definitions which u) type_rules refusal
  unasked_first found refusal first is =
      let b : Breaking = λ which. BreaksUse ifaces definitions which u in
      first_rule validity_number b rule.OtherConstantType _ None _ _ (λ s h. no_constant u.role first_parts.0 h.0.0) refl
      (first_rule validity_number b rule.CopiedAttribute _ None _ _ (λ s h. no_attribute u.role first_parts.0 h.0.0) refl
      (first_rule validity_number b rule.UndefinedInside _ None _ _ (λ s h. no_undefined u.ty parts.1 h.0.0) refl
      (first_rule validity_number b rule.WronglyNullable _ None _ _ (λ s h. no_question u.ty s parts.1 h.1) refl
      (first_rule validity_number b rule.SeveralNullableMembers _ None _ _ (of_no_union HaveSeveralNullable) refl
      (first_rule validity_number b rule.NullableBesideDictionary _ None _ _ (of_no_union HaveNullableAndDictionary) refl
      (first_rule validity_number b rule.AnnotatedUnionMember _ None _ _ (λ s h. no_member u.role first_parts.0 h.0.0) refl
      (first_rule validity_number b rule.NullableDictionary _ None _ _ (λ s h. no_argument u.role first_parts.0 h.0.0) refl
      (first_rule validity_number b rule.MisplacedAnnotation _ None _ _ (λ s h. nothing_listed u.attributes h.item (none_is u.attributes first_parts.1) h.listed) refl
      (first_rule validity_number b rule.ClampAndEnforceRange _ found None refusal first is
      (first_rule validity_number b rule.IndistinguishableUnionMembers _ None None None (of_no_union (HaveIndistinguishableMembers ifaces)) refl (no_rules validity_number b)))))))))))
