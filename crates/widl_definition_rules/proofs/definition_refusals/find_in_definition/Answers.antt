use Rattle.std.proofs.Common.{◌≡◌, List, Option, ap, subst, ◌∙◌, true}
use Rattle.widl_idl.specs.declared.violation.Violation.{Violation}
use Rattle.widl_idl.specs.First.{AtOne, FirstWhere, Somewhere}
use Rattle.widl_idl.specs.PlainTrees.{PlainArgument, definition_of}
use Rattle.widl_idl.proofs.Steps.{first_rule, no_rules}
use Rattle.widl_overload.specs.rules.ArgumentRules.{FollowsEllipsis, FollowsOptional, InOneList, IsArgumentPastLimit, RepeatsArgument, lists_in_definition}
use Rattle.widl_overload.specs.rules.Validity.{validity_number}
use Rattle.widl_overload.specs.declared.validity_rule.ValidityRule.TheVariants as rule
use Rattle.widl_inheritance.specs.WrittenLists.{listed_arguments}
use Rattle.widl_overload.specs.rules.OnDefinitions.{BreaksDefinition}
use Rattle.widl_refusals.proofs.FirstRefusals.{Breaking}
use Rattle.widl_definition_rules.proofs.definition_refusals.find_in_definition.Goals as goal

pub returns : goal.returns
returns c =
    let d = definition_of c.args.definition.now in
    let b : Breaking = λ which. BreaksDefinition which d in
    let lists : listed_arguments c.as_slice-lists.result.now ≡ lists_in_definition true d.kind = ap listed_arguments c.as_slice-lists.ensures.value ∙ c.in_ok-listed.ensures in
    let in_lists : (P : List PlainArgument → PlainArgument → Violation → Type 0) (found : Option Violation) → FirstWhere (Somewhere (AtOne P) (listed_arguments c.as_slice-lists.result.now)) found → FirstWhere (InOneList P d) found
    = λ P found l. subst (λ ls. FirstWhere (Somewhere (AtOne P) ls) found) lists l in
    first_rule validity_number b rule.RepeatedEnumerationValue _ _ _ _ c.in_ok-found-2.ensures c.first.ensures
    (first_rule validity_number b rule.AnnotationOfNoType _ _ _ _ c.first_annotation_of_no_type-found.ensures c.first-best-8.ensures
    (first_rule validity_number b rule.CallbackInterfaceOperations _ _ _ _ c.other_than_one_operation-found.ensures c.first-best-7.ensures
    (first_rule validity_number b rule.NamelessOperation _ _ _ _ c.first_nameless_operation.ensures c.first-best-6.ensures
    (first_rule validity_number b rule.MisformedCallbackOperation _ _ _ _ c.first_misformed_operation-found.ensures c.first-best-5.ensures
    (first_rule validity_number b rule.RepeatedArgumentName _ _ _ _ (in_lists RepeatsArgument _ c.in_ok-found.ensures) c.first-best-4.ensures
    (first_rule validity_number b rule.ArgumentAfterEllipsis _ _ _ _ (in_lists FollowsEllipsis _ c.first_after_ellipsis.ensures) c.first-best-3.ensures
    (first_rule validity_number b rule.RequiredAfterOptional _ _ _ _ (in_lists FollowsOptional _ c.first_required_after_optional-found.ensures) c.first-best-2.ensures
    (first_rule validity_number b rule.TooManyArguments _ _ _ _ (in_lists IsArgumentPastLimit _ c.first_argument_past_limit-found.ensures) c.first-best.ensures (no_rules validity_number b)))))))))
