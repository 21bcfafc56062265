-- Numbers below a bound, none of them twice, are no more than the bound.
use Rattle.std.proofs.Common.{◌≡◌, ◌≢◌, ◌⊎◌, inl, inr, ℕ, ◌<◌, ◌≤◌, Bool, true, false, cond, nat_eq, zero, suc, arith, refl, sym, ◌∙◌}

-- none of the first so many values stands twice
abbrev pub OneToOne : (ℕ → ℕ) → ℕ → Type 0
OneToOne f count = (i j : ℕ) → i < count → j < count → f i ≡ f j → i ≡ j

-- the values, with the last of them in place of m
abbrev without : (ℕ → ℕ) → ℕ → ℕ → ℕ → ℕ
without f last m i = cond (nat_eq (f i) m) (f last) (f i)

is_without : (f : ℕ → ℕ) (last m i : ℕ) → ((f i ≡ m) × (without f last m i ≡ f last)) ⊎ ((f i ≢ m) × (without f last m i ≡ f i))
is_without f last m i = by_test (nat_eq (f i) m) refl
  where
    by_test : (b : Bool) → nat_eq (f i) m ≡ b → ((f i ≡ m) × (cond b (f last) (f i) ≡ f last)) ⊎ ((f i ≢ m) × (cond b (f last) (f i) ≡ f i))
    by_test true e = inl (grind arith, refl)
    by_test false e = inr (grind arith, refl)

pub pigeonhole : (count bound : ℕ) (f : ℕ → ℕ) → ((i : ℕ) → i < count → f i < bound) → OneToOne f count → count ≤ bound
pigeonhole zero bound f below once = omega arith
pigeonhole (suc n) zero f below once = absurd (omega (arith, below n (omega arith)))
pigeonhole (suc n) (suc m) f below once = omega (arith, pigeonhole n m (without f n m) still_below still_once)
  where
    apart : (i : ℕ) → i < n → f i ≢ f n
    apart i l e = let same = once i n (omega (arith, l)) (omega arith) e in omega (arith, l, same)

    still_below : (i : ℕ) → i < n → without f n m i < m
    still_below i l = elim (is_without f n m i) [
      | inl h ↦ let own = below n (omega arith) in let other : f n ≢ m = λ e. apart i l (h.0 ∙ sym e) in omega (arith, h.1, own, other)
      | inr h ↦ let own = below i (omega (arith, l)) in omega (arith, h.0, h.1, own)
    ]

    still_once : OneToOne (without f n m) n
    still_once i j l k e = elim (is_without f n m i) [
      | inl g ↦ elim (is_without f n m j) [
        | inl h ↦ once i j (omega (arith, l)) (omega (arith, k)) (g.0 ∙ sym h.0)
        | inr h ↦ absurd (apart j k (sym h.1 ∙ sym e ∙ g.1))
      ]
      | inr g ↦ elim (is_without f n m j) [
        | inl h ↦ absurd (apart i l (sym g.1 ∙ e ∙ h.1))
        | inr h ↦ once i j (omega (arith, l)) (omega (arith, k)) (sym g.1 ∙ e ∙ h.1)
      ]
    ]
