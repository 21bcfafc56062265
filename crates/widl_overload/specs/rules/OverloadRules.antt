-- The rules of validity on overloads, each as one predicate over the effective overload sets of the merged list.
-- Source: Web IDL, "Overloading" and "distinguishing argument index".
use Rattle.std.specs.Prelude.{◌≡◌, ◌≢◌, ◌⊎◌, ℕ, ◌-◌, ◌<◌, ◌≤◌, Bool, true, false, List, [], ◌∷◌, ◌++◌, Contains, length, map, filter, flat_map, slice_get, Option, Some, option_map}
use Rattle.widl_text.specs.declared.place.Place.{Place}
use Rattle.widl_idl.specs.declared.violation.Violation.{Violation}
use Rattle.widl_idl.specs.DefinitionTerms.{DefsTerm, IfaceTerm, OpNameTerm, SigTerm, SpaceTerm}
use Rattle.widl_idl.specs.First.{Somewhere}
use Rattle.widl_overload.specs.sets.Index.{IsIndex, of_one_length, distinguishes}
use Rattle.widl_overload.specs.sets.Sets.{TupleTerm, effective_tuples}

-- whether operations have a name; those without one can't be called
abbrev pub has_name : OpNameTerm → Bool
has_name op = is_text op.name
  where
    is_text : List ℕ → Bool
    is_text [] = false
    is_text (c ∷ more) = true

abbrev pub operation_lists : List OpNameTerm → List (List SigTerm)
operation_lists ops = map (λ (op : OpNameTerm). op.sigs) (filter has_name ops)

-- the overloads of all that can be called: of each interface its constructors and the operations of each name, and of each namespace the operations of each name
abbrev pub overload_lists : DefsTerm → List (List SigTerm)
overload_lists defs = flat_map (λ (i : IfaceTerm). i.ctors ∷ operation_lists i.members.ops) defs.ifaces ++ flat_map (λ (s : SpaceTerm). operation_lists s.members.ops) defs.spaces

-- the least number of which something holds
pub record IsLeastNumber (P : ℕ → Type 0) (n : ℕ) : Type 0 where
  pub holds : P n
  pub first : (m : ℕ) → m < n → P m → ⊥

-- several tuples have the length, and at no place can they all be distinguished
pub record LacksIndex (ifaces : List IfaceTerm) (tuples : List TupleTerm) (m : ℕ) : Type 0 where
  pub several : 2 ≤ length (of_one_length m tuples)
  pub indistinguishable : (place : ℕ) → place < m → distinguishes ifaces tuples m place ≡ false

-- the types or the optionality values of two tuples at a place differ
abbrev pub DifferAt : TupleTerm → TupleTerm → ℕ → Type 0
DifferAt t u place = (slice_get t.types place ≢ slice_get u.types place) ⊎ (slice_get t.opts place ≢ slice_get u.opts place)

-- before the distinguishing index of a length two tuples of that length differ
pub record DifferEarly (ifaces : List IfaceTerm) (tuples : List TupleTerm) (m : ℕ) : Type 0 where
  pub index : ℕ
  pub is_index : IsIndex ifaces tuples m index
  pub place : ℕ
  pub early : place < index
  pub one : TupleTerm
  pub other : TupleTerm
  pub one_listed : Contains (of_one_length m tuples) one
  pub other_listed : Contains (of_one_length m tuples) other
  pub differ : DifferAt one other place

-- the place of the name of a tuple's overload
abbrev pub overload_place : List SigTerm → TupleTerm → Option Place
overload_place sigs t = option_map (λ (s : SigTerm). s.at) (slice_get sigs t.overload)

-- the violation is the name of the last overload of these tuples, and speaks of that of the first
pub record AtOverloads (sigs : List SigTerm) (tuples : List TupleTerm) (s : Violation) : Type 0 where
  pub first : TupleTerm
  pub last : TupleTerm
  pub is_first : slice_get tuples 0 ≡ Some first
  pub is_last : slice_get tuples (length tuples - 1) ≡ Some last
  pub at_last : overload_place sigs last ≡ Some s.at
  pub other_first : overload_place sigs first ≡ s.other

-- of the lengths of the effective overload set of which this holds the smallest one, at the names of its overloads
pub record AtSmallestLength (P : List TupleTerm → ℕ → Type 0) (sigs : List SigTerm) (s : Violation) : Type 0 where
  pub size : ℕ
  pub smallest : IsLeastNumber (P (effective_tuples sigs 0)) size
  pub at_names : AtOverloads sigs (of_one_length size (effective_tuples sigs 0)) s

-- rule 35: tuples of one length have no distinguishing index
abbrev pub HasIndistinguishableOverloads : DefsTerm → Violation → Type 0
HasIndistinguishableOverloads defs s = Somewhere (AtSmallestLength (LacksIndex defs.ifaces)) (overload_lists defs) s

-- rule 36: tuples of one length differ before their distinguishing index
abbrev pub HasEarlyDifference : DefsTerm → Violation → Type 0
HasEarlyDifference defs s = Somewhere (AtSmallestLength (DifferEarly defs.ifaces)) (overload_lists defs) s
