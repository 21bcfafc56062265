use Rattle.std.proofs.Common.{arith, length, subst, sym}
use Rattle.widl_idl.specs.PlainTrees.{definition_of, plain_definitions}
use Rattle.widl_names.proofs.PlainLists.{kind_there, listed_same}
use Rattle.widl_overload.specs.rules.OnMembers.{member_rules}
use Rattle.widl_member_rules.specs.Owners.{OwnerBreaks, OwnersBreak}
use Rattle.widl_refusals.specs.Refusals.{IsFirst}
use Rattle.widl_refusals.proofs.FirstRefusals.{all_items, next_item}
use Rattle.widl_member_rules.proofs.OwnerRefusals.{number_next, owner_pushed, owners_first}
use Rattle.widl_member_rules.proofs.owners.find_in_owners.Goals as goal

pub loop-number-init : goal.loop-number-init
loop-number-init c = λ r b. absurd (let below = b.breaks.below in omega (arith, below))

pub loop-number-preserved : goal.loop-number-preserved
loop-number-preserved c =
    let all = plain_definitions c.args.scope.now in
    let definitions = c.all-definitions.result.now in
    let number = c.loop-number.number in
    next_item member_rules (OwnersBreak all) (λ before d. OwnerBreaks all (length before) d.kind) (owner_pushed all) (λ d. definition_of d.now) definitions number c.index-definitions-number.result c.loop-number.best c.in_ok-found.found _ (omega arith) c.index-definitions-number.is c.loop-number.invariant
    (subst (λ n. IsFirst (OwnerBreaks all n (definition_of c.index-definitions-number.result.now).kind) member_rules c.in_ok-found.found) (sym (number_next definitions number (omega arith))) c.in_ok-found.ensures) c.earlier_refusal-best.ensures

pub returns : goal.returns
returns c =
    let all = plain_definitions c.args.scope.now in
    owners_first all c.loop-number.best (subst (λ ds. IsFirst (OwnersBreak all ds) member_rules c.loop-number.best) (listed_same c.all-definitions.result.now c.args.scope.now c.all-definitions.ensures.all)
    (all_items member_rules (OwnersBreak all) (λ d. definition_of d.now) c.all-definitions.result.now c.loop-number.number c.loop-number.best (omega arith) c.loop-number.invariant))

pub find_in_owner-requires : goal.find_in_owner-requires
find_in_owner-requires c = kind_there c.all-definitions.result.now c.args.scope.now c.loop-number.number c.index-definitions-number.result (omega arith) c.index-definitions-number.is c.all-definitions.ensures.all
