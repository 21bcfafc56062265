use Rattle.std.proofs.Common.{◌≡◌, ◌||◌, false, slice_index_or, sym, ap, subst, ◌∙◌}
use Rattle.widl_idl.specs.First.{AtOne, FirstWhere}
use Rattle.widl_idl.specs.PlainTrees.{plain_definitions}
use Rattle.widl_inheritance.specs.InterfaceMembers.{members_at}
use Rattle.widl_inheritance.specs.Iterations.{FollowsIterable, IsHiding}
use Rattle.widl_inheritance.proofs.IterationSteps.{none_follows, none_hiding}
use Rattle.widl_overload.specs.rules.IterableRules.{has_iterable}
use Rattle.widl_inheritance.proofs.iterables.find_in_interface.Goals as goal
use Rattle.widl_names.specs.Listings.{listed_members}

pub returns-then-not-flag_at-clause-second : goal.returns-then-not-flag_at-clause-second
returns-then-not-flag_at-clause-second c =
    let members = members_at (plain_definitions c.args.scope.now) c.args.number in
    let none : has_iterable members ≡ false = sym (c.requires.tells c.args.number) ∙ sym (ap (λ flags. slice_index_or flags c.args.number false) c.as_slice.ensures.value) ∙ sym c.if-not-flag_at.ensures.value in
    none_follows members none (slice_index_or c.args.inherited.now.iterable.items c.args.number false)

pub returns-then-not-flag_at-clause-hidden : goal.returns-then-not-flag_at-clause-hidden
returns-then-not-flag_at-clause-hidden c =
    let members = members_at (plain_definitions c.args.scope.now) c.args.number in
    let none : has_iterable members ≡ false = sym (c.requires.tells c.args.number) ∙ sym (ap (λ flags. slice_index_or flags c.args.number false) c.as_slice.ensures.value) ∙ sym c.if-not-flag_at.ensures.value in
    none_hiding members none (slice_index_or c.args.own.now.named.items c.args.number false || slice_index_or c.args.inherited.now.named.items c.args.number false)

pub returns-clause-second : goal.returns-clause-second
returns-clause-second c =
    let members : listed_members c.deref.result.now ≡ members_at (plain_definitions c.args.scope.now) c.args.number = ap listed_members c.deref.ensures.value ∙ c.in_ok-members.ensures in
    let flag : c.flag_at-inherits.result ≡ slice_index_or c.args.inherited.now.iterable.items c.args.number false = c.flag_at-inherits.ensures.value ∙ ap (λ flags. slice_index_or flags c.args.number false) c.as_slice-2.ensures.value in
    subst (λ ms. FirstWhere (AtOne (FollowsIterable (slice_index_or c.args.inherited.now.iterable.items c.args.number false)) ms) c.first_second_iterable.result) members
    (subst (λ b. FirstWhere (AtOne (FollowsIterable b) (listed_members c.deref.result.now)) c.first_second_iterable.result) flag c.first_second_iterable.ensures)

pub returns-clause-hidden : goal.returns-clause-hidden
returns-clause-hidden c =
    let members : listed_members c.deref-2.result.now ≡ members_at (plain_definitions c.args.scope.now) c.args.number = ap listed_members c.deref-2.ensures.value ∙ c.in_ok-members.ensures in
    let own = c.args.own.now.named.items in
    let inherited = c.args.inherited.now.named.items in
    let flag : c.either_flag-named.result ≡ (slice_index_or own c.args.number false || slice_index_or inherited c.args.number false)
    = c.either_flag-named.ensures ∙ ap (λ flags. slice_index_or flags c.args.number false || slice_index_or c.as_slice-4.result.now c.args.number false) c.as_slice-3.ensures.value
    ∙ ap (λ flags. slice_index_or own c.args.number false || slice_index_or flags c.args.number false) c.as_slice-4.ensures.value in
    subst (λ ms. FirstWhere (IsHiding (slice_index_or own c.args.number false || slice_index_or inherited c.args.number false) ms) c.first_hiding_iterable.result) members
    (subst (λ b. FirstWhere (IsHiding b (listed_members c.deref-2.result.now)) c.first_hiding_iterable.result) flag c.first_hiding_iterable.ensures)
