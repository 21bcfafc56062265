-- The order of places, the first violation at which something holds, and what holds at one of the items of a list.
use Rattle.std.specs.Prelude.{◌≡◌, ◌⊎◌, ℕ, ◌<◌, Bool, true, false, ◌&&◌, ◌||◌, nat_lt, nat_eq, List, Contains, length, take, slice_get, Option, None, Some}
use Rattle.widl_first.specs.First as first
use Rattle.widl_text.specs.declared.place.Place.{Place}
use Rattle.widl_idl.specs.declared.violation.Violation.{Violation}

-- p stands before q: in a file named before, or before it in the same file
abbrev pub Before : Place → Place → Type 0
Before p q = (p.file < q.file) ⊎ ((p.file ≡ q.file) × (p.at < q.at))

-- the same as a test
abbrev pub is_before : Place → Place → Bool
is_before p q = nat_lt p.file q.file || (nat_eq p.file q.file && nat_lt p.at q.at)

-- of two other places that may be absent the first comes before the second; none comes before each
abbrev pub OtherBefore : Option Place → Option Place → Type 0
OtherBefore None None = ⊥
OtherBefore None (Some q) = Unit {0}
OtherBefore (Some p) None = ⊥
OtherBefore (Some p) (Some q) = Before p q

abbrev pub is_other_before : Option Place → Option Place → Bool
is_other_before None None = false
is_other_before None (Some q) = true
is_other_before (Some p) None = false
is_other_before (Some p) (Some q) = is_before p q

-- p and q are one place
abbrev pub SamePlace : Place → Place → Type 0
SamePlace p q = (p.file ≡ q.file) × (p.at ≡ q.at)

abbrev pub is_same_place : Place → Place → Bool
is_same_place p q = nat_eq p.file q.file && nat_eq p.at q.at

-- s comes before t: it is at a earlier place, or at the same one and speaks of a earlier other place
abbrev pub ComesBefore : Violation → Violation → Type 0
ComesBefore s t = Before s.at t.at ⊎ (SamePlace s.at t.at × OtherBefore s.other t.other)

-- the same as a test
abbrev pub comes_before : Violation → Violation → Bool
comes_before s t = is_before s.at t.at || (is_same_place s.at t.at && is_other_before s.other t.other)

-- a violation that speaks of no other place
abbrev pub violation_at : Place → Violation
violation_at p = record { at = p; other = None }

-- the violation that comes first, of two that may be absent; of two that are one the first
abbrev pub earlier : Option Violation → Option Violation → Option Violation
earlier best found = first.first_of comes_before best found

-- P holds at s, and at no violation that comes before
abbrev pub IsFirst : (P : Violation → Type 0) → Violation → Type 0
IsFirst P s = first.IsFirst ComesBefore P s

-- the first violation at which P holds, or none where it holds nowhere
abbrev pub FirstWhere : (P : Violation → Type 0) → Option Violation → Type 0
FirstWhere P found = first.FirstWhere ComesBefore P found

-- one of the first n items, seen with those before it, breaks at s
pub record Upto {X : Type 0} (P : List X → X → Violation → Type 0) (xs : List X) (n : ℕ) (s : Violation) : Type 0 where
  pub index : ℕ
  pub below : index < n
  pub item : X
  pub is : slice_get xs index ≡ Some item
  pub breaks : P (take index xs) item s

-- one of the items, seen with those before it, breaks at s
abbrev pub AtOne : {X : Type 0} → (P : List X → X → Violation → Type 0) → List X → Violation → Type 0
AtOne P xs s = Upto P xs (length xs) s

-- one of the items breaks at s, whatever stands before it
pub record Somewhere {X : Type 0} (P : X → Violation → Type 0) (xs : List X) (s : Violation) : Type 0 where
  pub item : X
  pub listed : Contains xs item
  pub breaks : P item s
