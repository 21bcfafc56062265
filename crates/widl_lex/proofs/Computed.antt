-- Tests that the checker computes: for each number below a bound.
use Rattle.std.proofs.Common.{◌≡◌, ℕ, zero, suc, ◌<◌, ◌≤◌, Bool, true, false, List, [], ◌∷◌, ◌++◌, length, get_or, take, refl, sym, ◌∙◌, ap, subst, arith, if◌then◌else◌, ltb, ltb-true, ltb-false, inl, inr, ◌⊎◌}
use Rattle.std.specs.Prelude.{◌&&◌, ◌||◌}

pub and_cases : (a b : Bool) → (a && b) ≡ true → (a ≡ true) × (b ≡ true)
and_cases true b h = (refl, h)
and_cases false b h = cc

pub or_cases : (a b : Bool) → (a || b) ≡ true → (a ≡ true) ⊎ (b ≡ true)
or_cases true b h = inl refl
or_cases false b h = inr h

pub if_true : (b c : Bool) → (if b then c else true) ≡ true → b ≡ true → c ≡ true
if_true true c e h = e
if_true false c e h = cc

pub differ : true ≡ false → ⊥
differ e = cc

pub dec_below : (b n : ℕ) → b < suc n → (b < n) ⊎ (b ≡ n)
dec_below b n lt = go (ltb b n) refl
  where
    go : (c : Bool) → ltb b n ≡ c → (b < n) ⊎ (b ≡ n)
    go true e = inl (ltb-true b n e)
    go false e = inr (omega (arith, ltb-false b n e))

-- a test for each number below n
unfoldable pub all_below : ℕ → (ℕ → Bool) → Bool
all_below zero p = true
all_below (suc n) p = p n && all_below n p

pub all_at : (n : ℕ) (p : ℕ → Bool) → all_below n p ≡ true → (k : ℕ) → k < n → p k ≡ true
unfolding all_below
all_at zero p e k lt = absurd (omega arith)
all_at (suc n) p e k lt = let h = and_cases (p n) (all_below n p) e in elim (dec_below k n lt) [ inl less ↦ all_at n p h.1 k less | inr is ↦ ap p is ∙ h.0 ]

-- whether two tests agree
unfoldable pub alike : Bool → Bool → Bool
alike true b = b
alike false true = false
alike false false = true

pub alike_is : (a b : Bool) → alike a b ≡ true → a ≡ b
unfolding alike
alike_is true b e = sym e
alike_is false true e = cc
alike_is false false e = refl

-- each number is a byte
abbrev pub AllBytes : List ℕ → Type 0
AllBytes [] = Unit {0}
AllBytes (b ∷ w) = (b < 256) × AllBytes w

pub all_bytes : (w : List ℕ) → ((i : ℕ) → get_or w i 0 < 256) → AllBytes w
all_bytes [] h = tt
all_bytes (b ∷ w) h = (h 0, all_bytes w (λ i. h (suc i)))

pub take_none : (n : ℕ) → take {A = ℕ} n [] ≡ []
take_none zero = refl
take_none (suc n) = refl

pub all_take : (n : ℕ) (w : List ℕ) → AllBytes w → AllBytes (take n w)
all_take n [] all = subst AllBytes (sym (take_none n)) tt
all_take zero (b ∷ w) all = tt
all_take (suc n) (b ∷ w) all = (all.0, all_take n w all.1)

pub all_left : (u v : List ℕ) → AllBytes (u ++ v) → AllBytes u
all_left [] v all = tt
all_left (x ∷ u) v all = (all.0, all_left u v all.1)

pub all_right : (u v : List ℕ) → AllBytes (u ++ v) → AllBytes v
all_right [] v all = all
all_right (x ∷ u) v all = all_right u v all.1

pub all_both : (u v : List ℕ) → AllBytes u → AllBytes v → AllBytes (u ++ v)
all_both [] v a b = b
all_both (x ∷ u) v a b = (a.0, all_both u v a.1 b)

pub take_more : (w : List ℕ) (p : ℕ) → p < length w → take (suc p) w ≡ take p w ++ get_or w p 0 ∷ []
take_more [] p lt = absurd (omega arith)
take_more (x ∷ w) zero lt = refl
take_more (x ∷ w) (suc p) lt = ap (λ u. x ∷ u) (take_more w p (omega arith))

pub take_from : (w : List ℕ) (p m : ℕ) → p ≤ m → (v : List ℕ) × (take m w ≡ take p w ++ v)
take_from w zero m le = (take m w, refl)
take_from [] (suc p) m le = ([], take_none m)
take_from (x ∷ w) (suc p) zero le = absurd (omega arith)
take_from (x ∷ w) (suc p) (suc m) le = let r = take_from w p m (omega arith) in (r.0, ap (λ u. x ∷ u) r.1)

pub length_take : (n : ℕ) (w : List ℕ) → n ≤ length w → length (take n w) ≡ n
length_take zero [] le = refl
length_take zero (x ∷ w) le = refl
length_take (suc n) [] le = absurd (omega arith)
length_take (suc n) (x ∷ w) le = ap suc (length_take n w (omega arith))
