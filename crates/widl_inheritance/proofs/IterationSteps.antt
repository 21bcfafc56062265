-- The rules on iterables within one interface, a member at a time.
use Rattle.std.proofs.Common.{◌≡◌, ℕ, ◌+◌, ◌<◌, ◌≤◌, ◌++◌, Bool, true, false, ◌||◌, List, [], ◌∷◌, length, take, get_or, Option, None, arith, refl, sym, ap, subst, ◌∙◌, Bor}
use Rattle.std.specs.List.{Contains, list_any}
use Rattle.std.proofs.lemmas.List.{take_all}
use Rattle.std.proofs.lemmas.Option.{get_or_from_slice_get}
use Rattle.std.proofs.Math.Bool.{or-false}
use Rattle.widl_idl.specs.declared.violation.Violation.{Violation}
use Rattle.widl_idl.specs.declared.tree.members.Member.{Member}
use Rattle.widl_idl.specs.First.{AtOne, FirstWhere, Somewhere, earlier}
use Rattle.widl_idl.specs.PlainTrees.{PlainMember, PlainMemberKind, IterableMember, member_of}
use Rattle.widl_idl.proofs.Order.{first_same, one_place}
use Rattle.widl_names.specs.Listings.{listed_members}
use Rattle.widl_inheritance.specs.Iterations.{FollowsIterable, IsHiding, iterable_place, violation_if}
use Rattle.widl_fits.proofs.Fits.{item_any}
use Rattle.widl_names.proofs.Mapped.{all_somewhere, next_somewhere}
use Rattle.widl_names.proofs.MappedLoops.{any_push, listed_next}
use Rattle.widl_names.proofs.Pushed.{at_one_push}
use Rattle.widl_overload.specs.rules.IterableRules.{AtIterable, has_iterable, is_iterable}

-- whether one of the members passes a test, with one member more
pub any_next : (test : PlainMember → Bool) (members : List (Bor Member)) (i : ℕ) (m : Bor Member) (old passes now : Bool) → i < length members → m ≡ get_or members i m → passes ≡ test (member_of m.now) → now ≡ (old || passes)
    → old ≡ list_any test (listed_members (take i members)) → now ≡ list_any test (listed_members (take (i + 1) members))
any_next test members i m old passes now below is p e so =
    e ∙ ap (λ b. b || passes) so ∙ ap (λ b. list_any test (listed_members (take i members)) || b) p
    ∙ sym (any_push test (listed_members (take i members)) (member_of m.now)) ∙ ap (list_any test) (sym (listed_next members i m below is))

pub any_all : (test : PlainMember → Bool) (members : List (Bor Member)) (i : ℕ) (found : Bool) → length members ≤ i → found ≡ list_any test (listed_members (take i members)) → found ≡ list_any test (listed_members members)
any_all test members i found past e = e ∙ ap (λ ms. list_any test (listed_members ms)) (take_all i members past)

-- at the word of an iterable, where the test holds
iterable_first : (Q : Type 0) (holds : Bool) (kind : PlainMemberKind) (found : Option Violation) → (holds ≡ true → Q) → (holds ≡ false → Q → ⊥) → found ≡ violation_if holds (iterable_place kind) → FirstWhere (λ s. Q × AtIterable kind s) found
iterable_first Q holds (IterableMember i) found if_true if_false e = one_place Q i.at holds found if_true if_false e
iterable_first Q holds kind found if_true if_false e = subst (FirstWhere (λ s. Q × AtIterable kind s)) (sym e) (λ s h. h.1)

test_first : (holds now : Bool) (kind : PlainMemberKind) (found : Option Violation) → holds ≡ now → found ≡ violation_if holds (iterable_place kind) → FirstWhere (λ s. (now ≡ true) × AtIterable kind s) found
test_first holds now kind found same e = iterable_first (now ≡ true) holds kind found (λ h. sym same ∙ h) (λ h q. absurd (let wrong : true ≡ false = sym q ∙ sym same ∙ h in (cc))) e

-- whether an iterable is inherited or is among the members, and the first violation of one that follows
pub record Seen (inherited seen : Bool) (members : List PlainMember) (best : Option Violation) : Type 0 where
  pub any : seen ≡ (inherited || has_iterable members)
  pub earliest : FirstWhere (AtOne (FollowsIterable inherited) members) best

pub nothing_seen : (inherited : Bool) → Seen inherited inherited [] None
nothing_seen inherited = record { any = sym (or-false inherited); earliest = λ s u. absurd (let below = u.below in omega arith) }

or_assoc : (a b c : Bool) → ((a || b) || c) ≡ (a || (b || c))
or_assoc true b c = refl
or_assoc false b c = refl

-- one member more
pub seen_step : (inherited seen now_seen iterable : Bool) (members : List (Bor Member)) (i : ℕ) (m : Bor Member) (best found now : Option Violation) → i < length members → m ≡ get_or members i m
    → iterable ≡ is_iterable (member_of m.now).kind → found ≡ violation_if seen (iterable_place (member_of m.now).kind) → now ≡ earlier best found → now_seen ≡ (seen || iterable)
    → Seen inherited seen (listed_members (take i members)) best → Seen inherited now_seen (listed_members (take (i + 1) members)) now
seen_step inherited seen now_seen iterable members i m best found now below is it f e adds r =
    let before = listed_members (take i members) in
    let next = listed_next members i m below is in
    record {
      any = adds ∙ ap (λ b. b || iterable) r.any ∙ or_assoc inherited (has_iterable before) iterable ∙ ap (λ b. inherited || (has_iterable before || b)) it
          ∙ ap (λ b. inherited || b) (sym (any_push (λ (x : PlainMember). is_iterable x.kind) before (member_of m.now)) ∙ ap has_iterable (sym next));
      earliest = subst (λ ms. FirstWhere (AtOne (FollowsIterable inherited) ms) now) (sym next)
          (subst (FirstWhere (AtOne (FollowsIterable inherited) (before ++ member_of m.now ∷ []))) (sym e)
          (at_one_push (FollowsIterable inherited) before (member_of m.now) best found r.earliest (test_first seen (inherited || has_iterable before) (member_of m.now).kind found r.any f)));
    }

pub seen_end : (inherited seen : Bool) (members : List (Bor Member)) (i : ℕ) (best : Option Violation) → length members ≤ i → Seen inherited seen (listed_members (take i members)) best → FirstWhere (AtOne (FollowsIterable inherited) (listed_members members)) best
seen_end inherited seen members i best past r = subst (λ ms. FirstWhere (AtOne (FollowsIterable inherited) (listed_members ms)) best) (take_all i members past) r.earliest

-- an iterable, where a method's name is taken
abbrev pub HidesHere : Bool → PlainMember → Violation → Type 0
HidesHere named m s = (named ≡ true) × AtIterable m.kind s

pub hides_next : (named : Bool) (members : List (Bor Member)) (i : ℕ) (m : Bor Member) (best found now : Option Violation) → i < length members → m ≡ get_or members i m → found ≡ violation_if named (iterable_place (member_of m.now).kind) → now ≡ earlier best found
    → FirstWhere (Somewhere (HidesHere named) (take i (listed_members members))) best → FirstWhere (Somewhere (HidesHere named) (take (i + 1) (listed_members members))) now
hides_next named members i m best found now below is f e l =
    next_somewhere (λ (x : Bor Member). member_of x.now) members (listed_members members) refl (HidesHere named) i m best found now below is l (test_first named named (member_of m.now).kind found refl f) e

pub hides_all : (named : Bool) (members : List (Bor Member)) (i : ℕ) (best : Option Violation) → i ≡ length members → FirstWhere (Somewhere (HidesHere named) (take i (listed_members members))) best → FirstWhere (IsHiding named (listed_members members)) best
hides_all named members i best end l =
    first_same (Somewhere (HidesHere named) (listed_members members)) (IsHiding named (listed_members members)) best
    (λ s h. (h.breaks.0, record { item = h.item; listed = h.listed; breaks = h.breaks.1 }))
    (λ s h. record { item = h.1.item; listed = h.1.listed; breaks = (h.0, h.1.breaks) })
    (all_somewhere (λ (x : Bor Member). member_of x.now) members (listed_members members) refl (HidesHere named) i best end l)

at_iterable : (kind : PlainMemberKind) (s : Violation) → AtIterable kind s → is_iterable kind ≡ true
at_iterable (IterableMember i) s h = refl
at_iterable kind s h = absurd h

-- where no member is an iterable neither rule is broken
module _ (members : List PlainMember) (none : has_iterable members ≡ false) where
  not_iterable : (m : PlainMember) (s : Violation) → Contains members m → AtIterable m.kind s → ⊥
  not_iterable m s listed h = let wrong : true ≡ false = sym (item_any (λ (x : PlainMember). is_iterable x.kind) members m listed (at_iterable m.kind s h)) ∙ none in (cc)

  pub none_follows : (inherited : Bool) → FirstWhere (AtOne (FollowsIterable inherited) members) None
  none_follows inherited = λ s u. not_iterable u.item s (u.index, u.below, get_or_from_slice_get members u.index u.item u.item u.is) u.breaks.1

  pub none_hiding : (named : Bool) → FirstWhere (IsHiding named members) None
  none_hiding named = λ s h. not_iterable h.1.item s h.1.listed h.1.breaks
