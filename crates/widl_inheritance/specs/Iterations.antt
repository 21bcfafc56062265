-- For proofs alone. What the rules on iterables read of the members of one interface, and of all.
use Rattle.std.specs.Prelude.{◌≡◌, ℕ, ◌<◌, Bool, true, false, ◌||◌, List, Option, None, Some, if◌then◌else◌, slice_index_or}
use Rattle.widl_text.specs.declared.place.Place.{Place}
use Rattle.widl_idl.specs.declared.violation.Violation.{Violation}
use Rattle.widl_idl.specs.First.{AtOne, Somewhere, violation_at}
use Rattle.widl_idl.specs.PlainTrees.{PlainDefinition, PlainMember, PlainMemberKind, IterableMember}
use Rattle.widl_inheritance.specs.InterfaceMembers.{members_at}
use Rattle.widl_overload.specs.rules.IterableRules.{AtIterable, has_iterable}

-- where the word `iterable` of an iterable stands
abbrev pub iterable_place : PlainMemberKind → Option Place
iterable_place (IterableMember i) = Some i.at
iterable_place kind = None

-- the violation at a place, where there is one and the test holds
abbrev pub violation_if : Bool → Option Place → Option Violation
violation_if holds None = None
violation_if holds (Some place) = if holds then Some (violation_at place) else None

-- the flags tell of each number whether the members of its interface pass the test
pub record TellsMembers (test : List PlainMember → Bool) (definitions : List PlainDefinition) (flags : List Bool) : Type 0 where
  pub tells : (number : ℕ) → slice_index_or flags number false ≡ test (members_at definitions number)

-- an iterable, where an earlier one stands among the members or one is inherited: at its word
abbrev pub FollowsIterable : Bool → List PlainMember → PlainMember → Violation → Type 0
FollowsIterable inherited before m s = ((inherited || has_iterable before) ≡ true) × AtIterable m.kind s

-- the same of the members of the interface of this number, where the flags tell what is inherited
abbrev pub HasSecondAt : List PlainDefinition → List Bool → ℕ → Violation → Type 0
HasSecondAt definitions inherited number s = AtOne (FollowsIterable (slice_index_or inherited number false)) (members_at definitions number) s

-- an iterable among the members, where a member of its own or an inherited one is named as one of its methods: at its word
abbrev pub IsHiding : Bool → List PlainMember → Violation → Type 0
IsHiding named members s = (named ≡ true) × Somewhere (λ (m : PlainMember). AtIterable m.kind) members s

-- the same of the interface of this number, by the flags of what it has and of what it inherits
abbrev pub HidesAt : List PlainDefinition → List Bool → List Bool → ℕ → Violation → Type 0
HidesAt definitions own inherited number s = IsHiding (slice_index_or own number false || slice_index_or inherited number false) (members_at definitions number) s

-- the rule is broken at one of the first numbers
pub record BelowCount (Breaks : ℕ → Violation → Type 0) (count : ℕ) (s : Violation) : Type 0 where
  pub number : ℕ
  pub below : number < count
  pub breaks : Breaks number s
