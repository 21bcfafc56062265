-- What is found on the way to the rules on overloads.
use Rattle.std.specs.Prelude.{◌≡◌, ℕ, ◌<◌, ◌≤◌, List, Contains, slice_get, Option, None, MatchOption}
use Rattle.widl_idl.specs.DefinitionTerms.{IfaceTerm, SigTerm}
use Rattle.widl_idl.specs.declared.violation.Violation.{Violation}
use Rattle.widl_idl.specs.First.{FirstWhere, Somewhere, earlier}
use Rattle.widl_overload.specs.declared.overload_sizes.BreakingLengths.{BreakingLengths}
use Rattle.widl_overload.specs.declared.overload_violations.OverloadViolations.{OverloadViolations}
use Rattle.widl_overload.specs.sets.Index.{of_one_length}
use Rattle.widl_overload.specs.rules.OverloadRules.{AtOverloads, AtSmallestLength, DifferAt, DifferEarly, IsLeastNumber, LacksIndex}
use Rattle.widl_overload.specs.sets.Sets.{TupleTerm}

-- the types and the optionality values of two tuples at a place are the same
pub record AgreeAt (t u : TupleTerm) (place : ℕ) : Type 0 where
  pub types : slice_get t.types place ≡ slice_get u.types place
  pub opts : slice_get t.opts place ≡ slice_get u.opts place

abbrev pub AgreeBefore : ℕ → TupleTerm → TupleTerm → Type 0
AgreeBefore index t u = (place : ℕ) → place < index → AgreeAt t u place

-- two tuples differ at a place before an index
pub record DifferBefore (index : ℕ) (t u : TupleTerm) : Type 0 where
  pub place : ℕ
  pub early : place < index
  pub differ : DifferAt t u place

-- a tuple differs from one of these before an index
pub record DiffersFromOne (index : ℕ) (t : TupleTerm) (tuples : List TupleTerm) : Type 0 where
  pub other : TupleTerm
  pub listed : Contains tuples other
  pub differ : DifferBefore index t other

-- two of the tuples differ before an index
pub record TwoDiffer (index : ℕ) (tuples : List TupleTerm) : Type 0 where
  pub one : TupleTerm
  pub other : TupleTerm
  pub one_listed : Contains tuples one
  pub other_listed : Contains tuples other
  pub differ : DifferBefore index one other

-- the least number of which P holds, or none where it holds of none up to the greatest one
abbrev pub IsSmallest : (ℕ → Type 0) → ℕ → Option ℕ → Type 0
IsSmallest P most found = MatchOption found ((m : ℕ) → m ≤ most → P m → ⊥) (IsLeastNumber P)

-- the least number of which P holds, or none where it holds of none below m
abbrev pub IsSmallestBelow : (ℕ → Type 0) → ℕ → Option ℕ → Type 0
IsSmallestBelow P m found = MatchOption found ((k : ℕ) → k < m → P k → ⊥) (IsLeastNumber P)

-- the smallest lengths, up to the greatest one, at which tuples break each of the two rules
pub record AreSmallest (ifaces : List IfaceTerm) (tuples : List TupleTerm) (most : ℕ) (lengths : BreakingLengths) : Type 0 where
  pub indistinguishable : IsSmallest (LacksIndex ifaces tuples) most lengths.indistinguishable
  pub early : IsSmallest (DifferEarly ifaces tuples) most lengths.early

-- P holds at this violation alone
pub record IsOnlyViolation (P : Violation → Type 0) (s : Violation) : Type 0 where
  pub holds : P s
  pub only : (t : Violation) → P t → s ≡ t

-- the only violation at which P holds, or none where it holds at none
abbrev pub IsOnly : (Violation → Type 0) → Option Violation → Type 0
IsOnly P found = MatchOption found ((s : Violation) → P s → ⊥) (IsOnlyViolation P)

-- the violation at the names of the overloads that have tuples of a length, if there is such a length
abbrev pub IsAtNames : List SigTerm → List TupleTerm → Option ℕ → Option Violation → Type 0
IsAtNames sigs tuples size found = MatchOption size (found ≡ None) (λ m. IsOnly (AtOverloads sigs (of_one_length m tuples)) found)

-- the first violations at which each of two rules is broken
pub record AreFirst (Indistinguishable Early : Violation → Type 0) (violations : OverloadViolations) : Type 0 where
  pub indistinguishable : FirstWhere Indistinguishable violations.indistinguishable
  pub early : FirstWhere Early violations.early

-- the first violations in one list of overloads
abbrev pub AreViolationsAt : List IfaceTerm → List SigTerm → OverloadViolations → Type 0
AreViolationsAt ifaces sigs violations = AreFirst (AtSmallestLength (LacksIndex ifaces) sigs) (AtSmallestLength (DifferEarly ifaces) sigs) violations

-- the first violations in several lists of overloads
abbrev pub AreViolationsIn : List IfaceTerm → List (List SigTerm) → OverloadViolations → Type 0
AreViolationsIn ifaces lists violations = AreFirst (Somewhere (AtSmallestLength (LacksIndex ifaces)) lists) (Somewhere (AtSmallestLength (DifferEarly ifaces)) lists) violations

abbrev pub no_violations : OverloadViolations
no_violations = record { indistinguishable = None; early = None }

abbrev pub earlier_violations : OverloadViolations → OverloadViolations → OverloadViolations
earlier_violations best found = record { indistinguishable = earlier best.indistinguishable found.indistinguishable; early = earlier best.early found.early }
