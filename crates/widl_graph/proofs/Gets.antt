-- The item at a place of a list: after one more item, in a front part, and after a write.
use Rattle.std.proofs.Common.{◌≡◌, ◌≢◌, ◌⊎◌, inl, inr, ℕ, ◌<◌, zero, suc, List, [], ◌∷◌, ◌++◌, length, take, set, slice_get, Some, None, refl, sym, ap, ◌∙◌, arith}
use Rattle.std.proofs.lemmas.Option.{same_Some}

module _ {X : Type 0} where
  -- there is an item at each place below the length
  pub get_some : (xs : List X) (i : ℕ) → i < length xs → (x : X) × (slice_get xs i ≡ Some x)
  get_some [] i h = absurd (omega arith)
  get_some (x ∷ xs) zero h = (x, refl)
  get_some (x ∷ xs) (suc i) h = get_some xs i (omega arith)

  pub get_one : (xs : List X) (i : ℕ) (x y : X) → slice_get xs i ≡ Some x → slice_get xs i ≡ Some y → x ≡ y
  get_one xs i x y h k = same_Some x y (sym h ∙ k)

  pub push_old : (xs : List X) (x v : X) (i : ℕ) → slice_get xs i ≡ Some v → slice_get (xs ++ x ∷ []) i ≡ Some v
  push_old [] x v i h = absurd (let f : None ≡ Some v = h in (cc))
  push_old (y ∷ xs) x v zero h = h
  push_old (y ∷ xs) x v (suc i) h = push_old xs x v i h

  pub push_last : (xs : List X) (x : X) → slice_get (xs ++ x ∷ []) (length xs) ≡ Some x
  push_last [] x = refl
  push_last (y ∷ xs) x = push_last xs x

  pub push_cases : (xs : List X) (x v : X) (i : ℕ) → slice_get (xs ++ x ∷ []) i ≡ Some v → (slice_get xs i ≡ Some v) ⊎ ((i ≡ length xs) × (v ≡ x))
  push_cases [] x v zero h = inr (refl, same_Some v x (sym h))
  push_cases [] x v (suc i) h = absurd (let f : None ≡ Some v = h in (cc))
  push_cases (y ∷ xs) x v zero h = inl h
  push_cases (y ∷ xs) x v (suc i) h = elim (push_cases xs x v i h) [ inl k ↦ inl k | inr k ↦ inr (ap suc k.0, k.1) ]

  pub take_was : (n : ℕ) (xs : List X) (i : ℕ) (v : X) → slice_get (take n xs) i ≡ Some v → (slice_get xs i ≡ Some v) × (i < n)
  take_was zero xs i v h = absurd (let f : None ≡ Some v = h in (cc))
  take_was (suc n) [] i v h = absurd (let f : None ≡ Some v = h in (cc))
  take_was (suc n) (x ∷ xs) zero v h = (h, omega arith)
  take_was (suc n) (x ∷ xs) (suc i) v h = let k = take_was n xs i v h in (k.0, omega (arith, k.1))

  pub take_still : (n : ℕ) (xs : List X) (i : ℕ) (v : X) → slice_get xs i ≡ Some v → i < n → slice_get (take n xs) i ≡ Some v
  take_still zero xs i v h l = absurd (omega arith)
  take_still (suc n) [] i v h l = h
  take_still (suc n) (x ∷ xs) zero v h l = h
  take_still (suc n) (x ∷ xs) (suc i) v h l = take_still n xs i v h (omega arith)

  pub set_same : (xs : List X) (i : ℕ) (v w : X) → slice_get xs i ≡ Some v → slice_get (set xs i w) i ≡ Some w
  set_same [] i v w h = absurd (let f : None ≡ Some v = h in (cc))
  set_same (x ∷ xs) zero v w h = refl
  set_same (x ∷ xs) (suc i) v w h = set_same xs i v w h

  pub set_other : (xs : List X) (i j : ℕ) (w : X) → j ≢ i → slice_get (set xs i w) j ≡ slice_get xs j
  set_other [] i j w h = refl
  set_other (x ∷ xs) zero zero w h = absurd (h refl)
  set_other (x ∷ xs) zero (suc j) w h = refl
  set_other (x ∷ xs) (suc i) zero w h = refl
  set_other (x ∷ xs) (suc i) (suc j) w h = set_other xs i j w (λ e. h (ap suc e))

  pub set_cases : (xs : List X) (i j : ℕ) (v w : X) → slice_get (set xs i w) j ≡ Some v → ((j ≢ i) × (slice_get xs j ≡ Some v)) ⊎ ((j ≡ i) × (v ≡ w))
  set_cases [] i j v w h = absurd (let f : None ≡ Some v = h in (cc))
  set_cases (x ∷ xs) zero zero v w h = inr (refl, same_Some v w (sym h))
  set_cases (x ∷ xs) zero (suc j) v w h = inl (λ e. omega arith, h)
  set_cases (x ∷ xs) (suc i) zero v w h = inl (λ e. omega arith, h)
  set_cases (x ∷ xs) (suc i) (suc j) v w h = elim (set_cases xs i j v w h) [ inl k ↦ inl (λ e. k.0 (omega arith), k.1) | inr k ↦ inr (ap suc k.0, k.1) ]
