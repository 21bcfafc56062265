-- For proofs alone. Numbers that are ready for the next id, and the step that gives it.
use Rattle.std.specs.Prelude.{◌≡◌, ◌⊎◌, ℕ, ◌<◌, ◌&&◌, ◌||◌, ◌++◌, Bool, true, false, not, List, [], ◌∷◌, length, nat_eq, nat_lt, slice_index_or, Option, None, Some}
use Rattle.std.specs.BTreeSet.{contains}
use Rattle.std.specs.List.{list_any}
use Rattle.std.specs.Ordering.{nat_cmp}
use Rattle.widl_spell.specs.declared.ready.Ready.{Ready}
use Rattle.widl_spell.specs.Ids.{may_be_next, parent_at}

-- whether the number is ready
unfoldable pub is_ready : Ready → ℕ → Bool
is_ready ready n = contains nat_cmp ready.numbers n

-- n is the least number, and is taken away
pub record TakesLeast (old new : ℕ → Bool) (n : ℕ) : Type 0 where
  pub held : old n ≡ true
  pub least : (q : ℕ) → q < n → old q ≡ false
  pub others : (q : ℕ) → new q ≡ (old q && not (nat_eq q n))

-- there is no number
pub record IsNone (old new : ℕ → Bool) : Type 0 where
  pub none : (q : ℕ) → old q ≡ false
  pub still : (q : ℕ) → new q ≡ false

-- these numbers are added
abbrev pub Adds : List ℕ → (old new : ℕ → Bool) → Type 0
Adds numbers old new = (q : ℕ) → new q ≡ (list_any (nat_eq q) numbers || old q)

abbrev pub is_parentless : Option ℕ → Bool
is_parentless None = true
is_parentless (Some parent) = false

-- the number is added, if it has no parent
abbrev pub AddsParentless : Option ℕ → ℕ → (old new : ℕ → Bool) → Type 0
AddsParentless parent number old new = (q : ℕ) → new q ≡ ((is_parentless parent && nat_eq q number) || old q)

-- whether this is the number of the parent
abbrev pub is_parent : ℕ → Option ℕ → Bool
is_parent p None = false
is_parent p (Some parent) = nat_eq parent p

-- for each number the numbers whose parent it is
pub record AreHeirs (parents : List (Option ℕ)) (heirs : List (List ℕ)) (count : ℕ) : Type 0 where
  pub size : length heirs ≡ count
  pub each : (p q : ℕ) → p < count → list_any (nat_eq q) (slice_index_or heirs p []) ≡ is_parent p (parent_at parents q)

-- one heir more
pub record AddsHeir (parent : Option ℕ) (heir : ℕ) (old new : List (List ℕ)) : Type 0 where
  pub size : length new ≡ length old
  pub each : (p q : ℕ) → p < length old → list_any (nat_eq q) (slice_index_or new p []) ≡ (list_any (nat_eq q) (slice_index_or old p []) || (is_parent p parent && nat_eq q heir))

-- the next id is given to the least number that is ready, and its heirs become ready
pub record GivesId (heirs : List (List ℕ)) (ids new_ids : List ℕ) (old new : ℕ → Bool) : Type 0 where
  pub number : ℕ
  pub between : ℕ → Bool
  pub taken : TakesLeast old between number
  pub given : new_ids ≡ ids ++ number ∷ []
  pub heirs_added : Adds (slice_index_or heirs number []) between new

-- no number is ready
pub record GivesNone (ids new_ids : List ℕ) (old new : ℕ → Bool) : Type 0 where
  pub none : IsNone old new
  pub same : new_ids ≡ ids

abbrev pub Steps : List (List ℕ) → (ids new_ids : List ℕ) → (old new : ℕ → Bool) → Type 0
Steps heirs ids new_ids old new = GivesNone ids new_ids old new ⊎ GivesId heirs ids new_ids old new

-- the numbers that may have the next id
pub record AreReady (parents : List (Option ℕ)) (ids : List ℕ) (ready : ℕ → Bool) : Type 0 where
  pub exactly : (q : ℕ) → ready q ≡ (nat_lt q (length parents) && may_be_next parents ids q)

-- so many first interfaces without a parent are ready
abbrev pub AreParentless : List (Option ℕ) → ℕ → (ℕ → Bool) → Type 0
AreParentless parents count ready = (q : ℕ) → ready q ≡ (nat_lt q count && is_parentless (parent_at parents q))
