-- Whether two of a list pass a symmetric test doesn't depend on its order: it is told by how many pairs pass it.
use Rattle.std.proofs.Common.{◌≡◌, ℕ, zero, suc, ◌+◌, Bool, true, false, ◌||◌, cond, ltb, List, [], ◌∷◌, arith, refl, sym, ap, ◌∙◌}
use Rattle.std.proofs.lemmas.Bool.{lt-ltb}
use Rattle.std.proofs.lemmas.List.Sums.{sum_by-cons}
use Rattle.std.proofs.lemmas.List.Sorted.{sum_by-IsPermutation}
use Rattle.std.specs.List.{list_any, sum_by}
use Rattle.std.specs.List.Sorted.{IsPermutation}
use Rattle.widl_type_rules.specs.IndistinguishablePairs.{any_pair}

sum_both : {X : Type 0} (f g : X → ℕ) (xs : List X) → sum_by (λ x. f x + g x) xs ≡ sum_by f xs + sum_by g xs
sum_both f g [] = refl
sum_both f g (x ∷ xs) = omega (arith, sum_by-cons (λ x. f x + g x) x xs, sum_by-cons f x xs, sum_by-cons g x xs, sum_both f g xs)

or_one : (b : Bool) (n : ℕ) → (b || ltb 0 n) ≡ ltb 0 (cond b 1 0 + n)
or_one true n = sym (lt-ltb 0 (1 + n) (omega arith))
or_one false n = ap (ltb 0) (omega arith)

or_sum : (a b : ℕ) → (ltb 0 a || ltb 0 b) ≡ ltb 0 (a + b)
or_sum zero b = ap (ltb 0) (omega arith)
or_sum (suc a) b = ap (λ x. x || ltb 0 b) (lt-ltb 0 (suc a) (omega arith)) ∙ sym (lt-ltb 0 (suc a + b) (omega arith))

module _ {X : Type 0} (test : X → X → Bool) where
  abbrev count : X → List X → ℕ
  count x xs = sum_by (λ y. cond (test x y) 1 0) xs

  abbrev selves : List X → ℕ
  selves xs = sum_by (λ x. cond (test x x) 1 0) xs

  abbrev total : List X → ℕ
  total xs = sum_by (λ x. count x xs) xs

  abbrev pairs : List X → ℕ
  pairs [] = 0
  pairs (x ∷ xs) = count x xs + pairs xs

  any_by_count : (x : X) (xs : List X) → list_any (test x) xs ≡ ltb 0 (count x xs)
  any_by_count x [] = refl
  any_by_count x (y ∷ xs) = ap (λ b. test x y || b) (any_by_count x xs) ∙ or_one (test x y) (count x xs) ∙ ap (ltb 0) (sym (sum_by-cons (λ z. cond (test x z) 1 0) y xs))

  pair_by_count : (xs : List X) → any_pair test xs ≡ ltb 0 (pairs xs)
  pair_by_count [] = refl
  pair_by_count (x ∷ xs) = (λ j. any_by_count x xs j || pair_by_count xs j) ∙ or_sum (count x xs) (pairs xs)

  module _ (symmetric : (x y : X) → test x y ≡ test y x) where
    crossed : (x : X) (xs ys : List X) → sum_by (λ y. count y (x ∷ xs)) ys ≡ count x ys + sum_by (λ y. count y xs) ys
    crossed x xs ys =
        (λ j. sum_by (λ y. sum_by-cons (λ z. cond (test y z) 1 0) x xs j) ys)
        ∙ sum_both (λ y. cond (test y x) 1 0) (λ y. count y xs) ys
        ∙ (λ j. sum_by (λ y. cond (symmetric y x j) 1 0) ys + sum_by (λ y. count y xs) ys)

    total_is : (xs : List X) → total xs ≡ selves xs + (pairs xs + pairs xs)
    total_is [] = refl
    total_is (x ∷ xs) =
        let first : total (x ∷ xs) ≡ count x (x ∷ xs) + sum_by (λ y. count y (x ∷ xs)) xs = sum_by-cons (λ y. count y (x ∷ xs)) x xs in
        let own : count x (x ∷ xs) ≡ cond (test x x) 1 0 + count x xs = sum_by-cons (λ y. cond (test x y) 1 0) x xs in
        let rest : sum_by (λ y. count y (x ∷ xs)) xs ≡ count x xs + total xs = crossed x xs xs in
        let self : selves (x ∷ xs) ≡ cond (test x x) 1 0 + selves xs = sum_by-cons (λ y. cond (test y y) 1 0) x xs in
        omega (arith, first, own, rest, self, total_is xs)

    same_total : (xs ys : List X) → IsPermutation xs ys → total ys ≡ total xs
    same_total xs ys p = (λ j. sum_by (λ x. sum_by-IsPermutation (λ y. cond (test x y) 1 0) xs ys p j) ys) ∙ sum_by-IsPermutation (λ x. count x xs) xs ys p

    same_pairs : (xs ys : List X) → IsPermutation xs ys → pairs ys ≡ pairs xs
    same_pairs xs ys p = omega (arith, same_total xs ys p, sum_by-IsPermutation (λ x. cond (test x x) 1 0) xs ys p, total_is xs, total_is ys)

    pub any_pair_permuted : (xs ys : List X) → IsPermutation xs ys → any_pair test ys ≡ any_pair test xs
    any_pair_permuted xs ys p = pair_by_count ys ∙ ap (ltb 0) (same_pairs xs ys p) ∙ sym (pair_by_count xs)
