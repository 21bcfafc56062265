use Rattle.std.proofs.Common.{◌≡◌, flat_map, sym, ap, subst, ◌∙◌}
use Rattle.std.proofs.lemmas.Result.{IfOk-weaker}
use Rattle.widl_idl.specs.Parts.{members_in}
use Rattle.widl_idl.specs.PlainTrees.{definition_kind_of, plain_definitions}
use Rattle.widl_names.specs.PartTables.{ListsParts, listed_parts}
use Rattle.widl_names.specs.Listings.{listed_members}
use Rattle.widl_idl.specs.FirstRefusal.{violation_of}
use Rattle.widl_overload.specs.rules.OnMembers.{member_rules}
use Rattle.widl_member_rules.specs.Owners.{MembersBreak, OwnerBreaks, is_owner}
use Rattle.widl_refusals.specs.Refusals.{IsFirst}
use Rattle.widl_member_rules.proofs.OwnerRefusals.{no_owner, owner_first}
use Rattle.widl_member_rules.proofs.owners.find_in_owner.Goals as goal

pub returns-in_ok-members : goal.returns-in_ok-members
returns-in_ok-members c =
    let all = plain_definitions c.args.scope.now in
    let kind = definition_kind_of c.args.kind.now in
    let list = listed_parts c.in_ok-list.list.items in
    let members = listed_members c.in_ok-members.members.items in
    let lists : ListsParts all c.args.number list = subst (λ definitions. ListsParts (plain_definitions definitions) c.args.number list) c.parts.ensures c.in_ok-list.ensures in
    let listed : members ≡ flat_map members_in list = c.in_ok-members.ensures ∙ ap (λ items. flat_map members_in (listed_parts items)) c.deref.ensures.value in
    IfOk-weaker c.find_in_members.result (λ found. IsFirst (MembersBreak (plain_definitions c.resolver.result.now) c.kind_of.result (listed_members c.deref-then-is_owner.result.now)) member_rules found) (λ found. IsFirst (OwnerBreaks all c.args.number kind) member_rules found)
    (λ found l. owner_first all c.args.number kind list members found (ap (λ ds. is_owner (plain_definitions ds) c.args.number kind) (sym c.meanings.ensures) ∙ sym c.is_owner.ensures ∙ c.if-is_owner.true) c.requires lists listed
    (subst (λ k. IsFirst (MembersBreak all k members) member_rules found) c.kind_of.ensures (subst (λ items. IsFirst (MembersBreak all c.kind_of.result (listed_members items)) member_rules found) c.deref-then-is_owner.ensures.value
    (subst (λ definitions. IsFirst (MembersBreak (plain_definitions definitions) c.kind_of.result (listed_members c.deref-then-is_owner.result.now)) member_rules found) c.resolver.ensures l)))) c.find_in_members.ensures

pub returns-else-is_owner : goal.returns-else-is_owner
returns-else-is_owner c = λ r b. no_owner (plain_definitions c.args.scope.now) c.args.number (definition_kind_of c.args.kind.now) (ap (λ ds. is_owner (plain_definitions ds) c.args.number (definition_kind_of c.args.kind.now)) (sym c.meanings.ensures) ∙ sym c.is_owner.ensures ∙ c.if-is_owner.false) b.which (violation_of r) b.breaks
