use Rattle.std.proofs.Common.{refl, subst}
use Rattle.widl_idl.specs.PlainTrees.{plain_definitions}
use Rattle.widl_idl.specs.Nodes.{nodes_of}
use Rattle.widl_names.specs.Listings.{listed_definitions}
use Rattle.widl_names.proofs.NameMeanings.{all_plain}
use Rattle.widl_overload.specs.rules.Validity.{BreaksRule}
use Rattle.widl_overload.specs.rules.OnMembers.{ByOwner, ByType, InOneMember, NodesBreak, member_rules}
use Rattle.widl_refusals.specs.Refusals.{IsFirst}
use Rattle.widl_refusals.proofs.FirstRefusals.{both_breaks, same_rules}
use Rattle.widl_member_rules.proofs.MemberRefusals.{either_way}
use Rattle.widl_member_rules.proofs.member_refusals.find_in_members.Goals as goal

pub returns : goal.returns
returns c = λ list.
    let definitions = plain_definitions c.args.scope.now in
    let listed : IsFirst (NodesBreak definitions (nodes_of (listed_definitions c.all.result.now))) member_rules c.in_ok-types.types
    = subst (λ ds. IsFirst (NodesBreak (plain_definitions ds) (nodes_of (listed_definitions c.all.result.now))) member_rules c.in_ok-types.types) c.resolver.ensures c.in_ok-types.ensures in
    let types : IsFirst (ByType definitions) member_rules c.in_ok-types.types = subst (λ ds. IsFirst (NodesBreak definitions (nodes_of ds)) member_rules c.in_ok-types.types) (all_plain c.all.result.now c.args.scope.now c.all.ensures.all) listed in
    same_rules (InOneMember definitions) (BreaksRule list definitions) member_rules c.earlier_refusal.result refl
    (both_breaks member_rules (ByOwner definitions) (ByType definitions) (InOneMember definitions) (either_way definitions) c.in_ok-owners.owners c.in_ok-types.types c.earlier_refusal.result c.in_ok-owners.ensures types c.earlier_refusal.ensures)
