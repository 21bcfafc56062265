-- The distinguishing argument index (Web IDL, "distinguishing argument index").
use Rattle.std.specs.Prelude.{◌≡◌, ℕ, ◌<◌, ◌≤◌, Bool, true, false, ◌&&◌, List, [], ◌∷◌, length, map, filter, nat_eq, slice_get, Option, Some, MatchOption}
use Rattle.std.specs.List.{list_all}
use Rattle.widl_idl.specs.DefinitionTerms.{IfaceTerm}
use Rattle.widl_idl.specs.Terms.{TypeTerm}
use Rattle.widl_overload.specs.declared.tuple.Tuple.{Tuple}
use Rattle.widl_overload.specs.sets.Distinct.{distinguishable}
use Rattle.widl_overload.specs.sets.Sets.{TupleTerm, tuple_term}

abbrev pub types_apart : List IfaceTerm → Option TypeTerm → Option TypeTerm → Bool
types_apart ifaces (Some t) (Some u) = distinguishable ifaces t u
types_apart ifaces t u = false

-- whether two tuples have distinguishable types at a place
unfoldable pub apart_at : List IfaceTerm → ℕ → TupleTerm → TupleTerm → Bool
apart_at ifaces place t u = types_apart ifaces (slice_get t.types place) (slice_get u.types place)

abbrev pub each_two : {X : Type 0} → (X → X → Bool) → List X → Bool
each_two test [] = true
each_two test (x ∷ xs) = list_all (test x) xs && each_two test xs

abbrev pub has_length : ℕ → TupleTerm → Bool
has_length m t = nat_eq (length t.types) m

abbrev pub of_one_length : ℕ → List TupleTerm → List TupleTerm
of_one_length m tuples = filter (has_length m) tuples

-- whether each two tuples of a length are distinguishable at a place
abbrev pub distinguishes : List IfaceTerm → List TupleTerm → ℕ → ℕ → Bool
distinguishes ifaces tuples m place = each_two (apart_at ifaces place) (of_one_length m tuples)

-- the lowest place at which each two of the several tuples of a length are distinguishable
pub record IsIndex (ifaces : List IfaceTerm) (tuples : List TupleTerm) (m place : ℕ) : Type 0 where
  pub several : 2 ≤ length (of_one_length m tuples)
  pub within : place < m
  pub tells : distinguishes ifaces tuples m place ≡ true
  pub lowest : (p : ℕ) → p < place → distinguishes ifaces tuples m p ≡ false

-- fewer than two tuples have the length, or no place will do
abbrev pub HasNoIndex : List IfaceTerm → List TupleTerm → ℕ → Type 0
HasNoIndex ifaces tuples m = 2 ≤ length (of_one_length m tuples) → (p : ℕ) → p < m → distinguishes ifaces tuples m p ≡ false

abbrev pub IsDistinguishingIndex : List IfaceTerm → List TupleTerm → ℕ → Option ℕ → Type 0
IsDistinguishingIndex ifaces tuples m index = MatchOption index (HasNoIndex ifaces tuples m) (IsIndex ifaces tuples m)

-- what the code walks: the terms of tuples of a length
abbrev pub terms_of_length : ℕ → List Tuple → List TupleTerm
terms_of_length m tuples = of_one_length m (map tuple_term tuples)
