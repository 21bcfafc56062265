-- Tuples that differ before an index, and the smallest length at which a rule on overloads is broken.
use Rattle.std.proofs.Common.{◌≡◌, inl, inr, ℕ, ◌+◌, ◌<◌, Bool, true, false, List, [], ◌∷◌, arith, below_more, sym, subst, ◌∙◌}
use Rattle.std.specs.Prelude.{None, Option, Some, MatchBool, MatchOption, Contains, slice_get}
use Rattle.std.specs.List.{All}
use Rattle.std.proofs.lemmas.List.Elements.{All-contains}
use Rattle.std.proofs.lemmas.Option.{slice_get_within, get_or_from_slice_get}
use Rattle.widl_idl.specs.DefinitionTerms.{IfaceTerm}
use Rattle.widl_overload.specs.sets.Index.{IsIndex, of_one_length, distinguishes}
use Rattle.widl_overload.specs.rules.OverloadRules.{DifferEarly}
use Rattle.widl_overload.specs.rules.OverloadViolations.{AgreeBefore, DifferBefore, DiffersFromOne, IsSmallest, IsSmallestBelow, TwoDiffer}
use Rattle.widl_overload.specs.sets.Sets.{TupleTerm}

pub when_true : (b : Bool) (P Q : Type 0) → b ≡ true → MatchBool b P Q → P
when_true b P Q e h = subst (λ c. MatchBool c P Q) e h

-- one number more
pub smallest_more : (P : ℕ → Type 0) (m : ℕ) (found now : Option ℕ) (broken : Bool) → IsSmallestBelow P m found → MatchBool broken (P m) (P m → ⊥) → MatchOption found (MatchBool broken (now ≡ Some m) (now ≡ None)) (λ n. now ≡ Some n) → IsSmallestBelow P (m + 1) now
smallest_more P m None now true below holds is = subst (IsSmallestBelow P (m + 1)) (sym is) (record { holds = holds; first = below })
smallest_more P m None now false below holds is = subst (IsSmallestBelow P (m + 1)) (sym is) (below_more _ _ below holds)
smallest_more P m (Some n) now broken earliest holds is = subst (IsSmallestBelow P (m + 1)) (sym is) earliest

-- the smallest up to the greatest number
pub smallest_all : (P : ℕ → Type 0) (m most : ℕ) (found : Option ℕ) → most < m → IsSmallestBelow P m found → IsSmallest P most found
smallest_all P m most None last below = λ k within. below k (omega arith)
smallest_all P m most (Some n) last earliest = earliest

no_first : (tuples : List TupleTerm) (t : TupleTerm) → None ≡ slice_get tuples 0 → Contains tuples t → ⊥
no_first [] t e c = omega (arith, c.1)
no_first (u ∷ tuples) t e c = cc

-- where there is no first tuple no two differ
pub none_differ : (index : ℕ) (tuples : List TupleTerm) → None ≡ slice_get tuples 0 → TwoDiffer index tuples → ⊥
none_differ index tuples e d = no_first tuples d.one e d.one_listed

pub first_listed : {X : Type 0} (xs : List X) (x : X) → Some x ≡ slice_get xs 0 → Contains xs x
first_listed xs x e = (0, slice_get_within xs 0 x (sym e), get_or_from_slice_get xs 0 x x (sym e))

pub not_both : (b : Bool) → b ≡ true → b ≡ false → ⊥
not_both b e f = cc

agreeing : (index : ℕ) (first t u : TupleTerm) → AgreeBefore index first t → AgreeBefore index first u → DifferBefore index t u → ⊥
agreeing index first t u a b d = elim d.differ [
  | inl types ↦ types (sym (a d.place d.early).types ∙ (b d.place d.early).types)
  | inr opts ↦ opts (sym (a d.place d.early).opts ∙ (b d.place d.early).opts)
]

-- two tuples differ exactly where one differs from the first
pub differ_by_first : (index : ℕ) (tuples : List TupleTerm) (first : TupleTerm) (b : Bool) → Some first ≡ slice_get tuples 0 → MatchBool b (DiffersFromOne index first tuples) (All (AgreeBefore index first) tuples) → MatchBool b (TwoDiffer index tuples) (TwoDiffer index tuples → ⊥)
differ_by_first index tuples first true e d = record { one = first; other = d.other; one_listed = first_listed tuples first e; other_listed = d.listed; differ = d.differ }
differ_by_first index tuples first false e all = λ d. agreeing index first d.one d.other (All-contains (AgreeBefore index first) tuples d.one all d.one_listed) (All-contains (AgreeBefore index first) tuples d.other all d.other_listed) d.differ

module _ (ifaces : List IfaceTerm) (tuples : List TupleTerm) (m : ℕ) where
  one_index : (i j : ℕ) → IsIndex ifaces tuples m i → IsIndex ifaces tuples m j → i ≡ j
  one_index i j a b =
      let not_below : i < j → ⊥ = λ l. not_both (distinguishes ifaces tuples m i) a.tells (b.lowest i l) in
      let not_above : j < i → ⊥ = λ l. not_both (distinguishes ifaces tuples m j) b.tells (a.lowest j l) in
      omega (arith, not_below, not_above)

  early_of : (index : ℕ) → IsIndex ifaces tuples m index → TwoDiffer index (of_one_length m tuples) → DifferEarly ifaces tuples m
  early_of index is d = record { index = index; is_index = is; place = d.differ.place; early = d.differ.early; one = d.one; other = d.other; one_listed = d.one_listed; other_listed = d.other_listed; differ = d.differ.differ }

  early_at : (index : ℕ) → IsIndex ifaces tuples m index → DifferEarly ifaces tuples m → TwoDiffer index (of_one_length m tuples)
  early_at index is d = record { one = d.one; other = d.other; one_listed = d.one_listed; other_listed = d.other_listed; differ = record { place = d.place; early = subst (λ n. d.place < n) (one_index d.index index d.is_index is) d.early; differ = d.differ } }

  -- where there is an index tuples of the length differ early exactly where two differ before it
  pub early_by_index : (index : ℕ) (b : Bool) → IsIndex ifaces tuples m index → MatchBool b (TwoDiffer index (of_one_length m tuples)) (TwoDiffer index (of_one_length m tuples) → ⊥) → MatchBool b (DifferEarly ifaces tuples m) (DifferEarly ifaces tuples m → ⊥)
  early_by_index index true is d = early_of index is d
  early_by_index index false is none = λ d. none (early_at index is d)
