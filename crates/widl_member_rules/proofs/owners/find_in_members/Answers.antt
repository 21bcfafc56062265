use Rattle.std.proofs.Common.{None, refl}
use Rattle.widl_idl.specs.PlainTrees.{plain_definitions}
use Rattle.widl_idl.proofs.Steps.{first_rule, no_rules}
use Rattle.widl_overload.specs.rules.MemberRules.{HasKeptName, HasOverloadPastLimit, IsSecondStringifier, MixesPromises, RepeatsMember, has_members_of_its_own}
use Rattle.widl_overload.specs.rules.Validity.{validity_number}
use Rattle.widl_overload.specs.declared.validity_rule.ValidityRule.TheVariants as rule
use Rattle.widl_names.specs.Listings.{listed_members}
use Rattle.widl_member_rules.specs.Owners.{MembersBreak}
use Rattle.widl_member_rules.proofs.OwnerRefusals.{asked_first, interface_first}
use Rattle.widl_member_rules.proofs.owners.find_in_members.Goals as goal

pub returns-then-are_apart : goal.returns-then-are_apart
returns-then-are_apart c = c.find_in_apart.ensures (plain_definitions c.args.resolver.now)

pub returns : goal.returns
returns c =
    let definitions = plain_definitions c.args.resolver.now in
    let members = listed_members c.args.members.now in
    let b = MembersBreak definitions c.args.kind members in
    let kept = first_rule validity_number b rule.KeptName _ _ _ _ (interface_first c.args.kind members (listed_members c.members_of_interface-of_interface.result.now) HasKeptName c.first_kept_name.result c.members_of_interface-of_interface.ensures c.first_kept_name.ensures) c.first-best-2.ensures
    (first_rule validity_number b rule.TooManyOverloads _ _ _ _ (asked_first c.args.kind members has_members_of_its_own HasOverloadPastLimit _ c.requires c.in_ok-found.ensures) c.first-best.ensures (no_rules validity_number b)) in
    first_rule validity_number b rule.OtherConstantValue _ None _ _ (λ s h. absurd h.1.breaks) refl
    (first_rule validity_number b rule.WritablePromise _ None _ _ (λ s h. absurd h.1.breaks) refl
    (first_rule validity_number b rule.Stringifiers _ _ _ _ (interface_first c.args.kind members (listed_members c.members_of_interface-of_interface.result.now) IsSecondStringifier c.first_second_stringifier.result c.members_of_interface-of_interface.ensures c.first_second_stringifier.ensures) c.first.ensures
    (first_rule validity_number b rule.PromisesAndOthers _ _ _ _ (asked_first c.args.kind members has_members_of_its_own (MixesPromises definitions) _ c.requires c.in_ok-found-3.ensures) c.first-best-4.ensures
    (first_rule validity_number b rule.RepeatedMember _ _ _ _ (asked_first c.args.kind members has_members_of_its_own RepeatsMember _ c.requires c.in_ok-found-2.ensures) c.first-best-3.ensures kept))))
