-- The table of quoted terminals by their first bytes: its bounds, by tests that the checker computes.
use Rattle.std.proofs.Common.{◌≡◌, ℕ, ◌<◌, ◌≤◌, true, refl, leb, leb-true, ap, ◌∙◌, Bool, false, zero, suc, ltb, ltb-true, ltb-false, arith}
use Rattle.std.specs.Prelude.{◌&&◌, slice_index}
use Rattle.widl_predictive.proofs.Booleans.{and_cases}
use Rattle.widl_grammar.specs.declared.spelling.TheConstants.{QUOTED_FROM}

-- a test for each number below n
all_below : ℕ → (ℕ → Bool) → Bool
all_below zero p = true
all_below (suc n) p = p n && all_below n p

last_or_below : (n k : ℕ) (p : ℕ → Bool) → p n ≡ true → (k < n → p k ≡ true) → k < suc n → p k ≡ true
last_or_below n k p last below lt = go (ltb k n) refl
  where
    go : (c : Bool) → ltb k n ≡ c → p k ≡ true
    go true less = below (ltb-true k n less)
    go false not_less = let same_number : k ≡ n = omega (arith, lt, ltb-false k n not_less) in ap p same_number ∙ last

all_at : (n : ℕ) (p : ℕ → Bool) → all_below n p ≡ true → (k : ℕ) → k < n → p k ≡ true
unfolding all_below
all_at zero p e k lt = absurd (omega arith)
all_at (suc n) p e k lt = let parts = and_cases (p n) (all_below n p) e in last_or_below n k p parts.0 (λ less. all_at n p parts.1 k less) lt

within : all_below 257 (λ b. leb (slice_index QUOTED_FROM b) 86) ≡ true
unfolding all_below
within = refl

pub from_within : (b : ℕ) → b < 257 → slice_index QUOTED_FROM b ≤ 86
from_within b lt = leb-true _ _ (all_at 257 (λ c. leb (slice_index QUOTED_FROM c) 86) within b lt)
