use Rattle.widl_idl.specs.DefinitionTerms.{defs_term}
use Rattle.widl_idl.specs.PlainTrees.{plain_definitions}
use Rattle.widl_idl.proofs.Steps.{first_rule, no_rules}
use Rattle.widl_overload.specs.rules.Validity.{validity_number}
use Rattle.widl_overload.specs.declared.validity_rule.ValidityRule.TheVariants as rule
use Rattle.widl_overload.specs.rules.OnTypes.{BreaksType}
use Rattle.widl_type_rules.specs.UsesListed.{resolved_use}
use Rattle.widl_refusals.proofs.FirstRefusals.{Breaking}
use Rattle.widl_type_rules.proofs.type_refusals.find_in_type.Goals as goal

pub returns : goal.returns
returns c =
    let b : Breaking = λ which. BreaksType (defs_term c.args.defs.now).ifaces (plain_definitions c.args.resolver.now) which (resolved_use c.args.ty.now) in
    first_rule validity_number b rule.OtherConstantType _ _ _ _ c.other_constant_type.ensures c.first.ensures
    (first_rule validity_number b rule.CopiedAttribute _ _ _ _ c.copied_attribute.ensures c.first-best-10.ensures
    (first_rule validity_number b rule.UndefinedInside _ _ _ _ c.undefined_inside.ensures c.first-best-9.ensures
    (first_rule validity_number b rule.WronglyNullable _ _ _ _ c.wrongly_nullable.ensures c.first-best-8.ensures
    (first_rule validity_number b rule.SeveralNullableMembers _ _ _ _ c.several_nullable.ensures c.first-best-7.ensures
    (first_rule validity_number b rule.NullableBesideDictionary _ _ _ _ c.nullable_beside_dictionary-found.ensures c.first-best-6.ensures
    (first_rule validity_number b rule.AnnotatedUnionMember _ _ _ _ c.annotated_member.ensures c.first-best-5.ensures
    (first_rule validity_number b rule.NullableDictionary _ _ _ _ c.nullable_dictionary.ensures c.first-best-4.ensures
    (first_rule validity_number b rule.MisplacedAnnotation _ _ _ _ c.misplaced_annotation.ensures c.first-best-3.ensures
    (first_rule validity_number b rule.ClampAndEnforceRange _ _ _ _ c.clamp_and_enforce-found.ensures c.first-best-2.ensures
    (first_rule validity_number b rule.IndistinguishableUnionMembers _ _ _ _ c.in_ok-found.ensures c.first-best.ensures (no_rules validity_number b)))))))))))
