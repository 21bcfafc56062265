-- The first of the items from a place on that passes a test.
use Rattle.std.proofs.Common.{◌≡◌, ℕ, ◌+◌, ◌<◌, ◌≤◌, zero, suc, Bool, true, false, cond, List, [], ◌∷◌, length, drop, map, get_or, Option, None, Some, arith, refl, sym, ap, ◌∙◌}
use Rattle.std.specs.List.{find}

module _ {A B : Type 0} (f : A → B) (p : B → Bool) where
  -- the first from this place on
  abbrev pub find_from : List A → ℕ → Option B
  find_from xs i = find p (map f (drop i xs))

  pub found_here : (xs : List A) (i : ℕ) (x : A) → i < length xs → x ≡ get_or xs i x → p (f x) ≡ true → find_from xs i ≡ Some (f x)
  found_here [] i x within is h = absurd (omega arith)
  found_here (y ∷ xs) zero x within is h = ap (λ z. cond (p (f z)) (Some (f z)) (find p (map f xs))) (sym is) ∙ ap (λ b. cond b (Some (f x)) (find p (map f xs))) h
  found_here (y ∷ xs) (suc i) x within is h = found_here xs i x (omega arith) is h

  pub passed_here : (xs : List A) (i : ℕ) (x : A) → i < length xs → x ≡ get_or xs i x → p (f x) ≡ false → find_from xs (i + 1) ≡ find_from xs i
  passed_here [] i x within is h = absurd (omega arith)
  passed_here (y ∷ xs) zero x within is h = sym (ap (λ z. cond (p (f z)) (Some (f z)) (find p (map f xs))) (sym is) ∙ ap (λ b. cond b (Some (f x)) (find p (map f xs))) h)
  passed_here (y ∷ xs) (suc i) x within is h = let further : suc i + 1 ≡ suc (i + 1) = omega arith in ap (find_from (y ∷ xs)) further ∙ passed_here xs i x (omega arith) is h

  pub none_past : (xs : List A) (i : ℕ) → length xs ≤ i → find_from xs i ≡ None
  none_past [] zero past = refl
  none_past [] (suc i) past = refl
  none_past (x ∷ xs) zero past = absurd (omega arith)
  none_past (x ∷ xs) (suc i) past = none_past xs i (omega arith)
