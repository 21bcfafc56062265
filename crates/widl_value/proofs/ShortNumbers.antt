-- The nearest short number is one of the two multiples of the step around.
use Rattle.std.proofs.Common.{◌≡◌, ℕ, suc, zero, ◌+◌, ◌-◌, ◌*◌, ◌^◌, ◌/◌, ◌%◌, ◌<◌, ◌≤◌, ◌⊎◌, inl, inr, ◌≢◌, refl, sym, ap, subst, ◌∙◌, arith}
use Rattle.std.proofs.lemmas.Nat.{pow-add, pow_pos, mul-le}
use Rattle.std.proofs.Math.Nat.{mul-le-mul_right, mul_assoc, mul_comm, pow-suc}
use Rattle.std.proofs.Math.Pow.{pow_mono}
use Rattle.std.proofs.lemmas.Bool.{cases_lt}
use Rattle.widl_value.specs.Near.{Short, Near, Even, apart}
use Rattle.widl_value.specs.Steps.{Steps, IsUp, IsDown}

-- a step on the way
pub record Half (v step : ℕ) : Type 0 where
  pub e : ℕ
  pub is : step ≡ 2 ^ e
  pub positive : 0 < step
  pub full : (step ≡ 1) ⊎ (2 ^ 52 * step ≤ v)

no_power : (e : ℕ) → 2 ^ e ≡ 1 → e ≡ 0
no_power zero is = refl
no_power (suc e) is = let some : 0 < 2 ^ e = pow_pos e in absurd (omega (arith, is, some))

pub one_more : (whole step : ℕ) → whole * step + step ≡ suc whole * step
one_more whole step = omega arith

pub one_times : (n : ℕ) → 1 * n ≡ n
one_times n = omega arith

top : (whole : ℕ) → whole < 2 ^ 53 → 2 ^ 53 ≤ suc whole → suc whole ≡ 2 ^ 53
top whole less more = omega (arith, less, more)

pub half_next : (v step : ℕ) → Half v step → 2 ^ 53 * step ≤ v → Half v (step * 2)
half_next v step h above = record {
  e = suc h.e;
  is = ap (λ p. p * 2) h.is ∙ sym (pow-suc 2 h.e);
  positive = let p = h.positive in omega (arith, p);
  full = inr (omega (arith, above));
}

shift : (w e : ℕ) → w * 2 * 2 ^ e ≡ w * 2 ^ (e + 1)
shift w e = let more : suc e ≡ e + 1 = omega arith in mul_assoc w 2 (2 ^ e) ∙ ap (λ x. w * x) (mul_comm 2 (2 ^ e) ∙ sym (pow-suc 2 e) ∙ ap (λ n. 2 ^ n) more)

-- an even number of steps
twice : (whole step e : ℕ) → step ≡ 2 ^ e → whole % 2 ≡ 0 → whole * step ≡ whole / 2 * 2 ^ (e + 1)
twice whole step e is even = let halves : whole ≡ whole / 2 * 2 = omega (arith, even) in ap (λ p. whole * p) is ∙ ap (λ x. x * 2 ^ e) halves ∙ shift (whole / 2) e

twice_next : (whole step e : ℕ) → step ≡ 2 ^ e → whole % 2 ≡ 1 → whole * step + step ≡ suc whole / 2 * 2 ^ (e + 1)
twice_next whole step e is odd = let halves : suc whole ≡ suc whole / 2 * 2 = omega (arith, odd) in one_more whole step ∙ ap (λ p. suc whole * p) is ∙ ap (λ x. x * 2 ^ e) halves ∙ shift (suc whole / 2) e

-- one step more than a short number's
next : (whole step e : ℕ) → step ≡ 2 ^ e → whole < 2 ^ 53 → Short (whole * step + step)
next whole step e is small = by (cases_lt (suc whole) (2 ^ 53))
  where
    by : (suc whole < 2 ^ 53) ⊎ (2 ^ 53 ≤ suc whole) → Short (whole * step + step)
    by (inl less) = record { m = suc whole; e = e; small = less; is = one_more whole step ∙ ap (λ p. suc whole * p) is }
    by (inr more) = record { m = 1; e = 53 + e; small = omega arith; is = one_more whole step ∙ ap (λ w. w * step) (top whole small more) ∙ ap (λ p. 2 ^ 53 * p) is ∙ sym (pow-add 2 53 e) ∙ sym (one_times (2 ^ (53 + e))) }

pub multiple : (k whole q p : ℕ) → k ≡ q * p → (whole < q) ⊎ (q ≤ whole) → (k ≤ whole * p) ⊎ (whole * p + p ≤ k)
multiple k whole q p is (inl above) = let more : suc whole * p ≤ q * p = mul-le-mul_right p above in inr (omega (arith, is, more))
multiple k whole q p is (inr below) = let less : q * p ≤ whole * p = mul-le-mul_right p below in inl (omega (arith, is, less))

finer : (k whole m f d : ℕ) → k ≡ m * 2 ^ f → m < 2 ^ 53 → 2 ^ 52 ≤ whole → k ≤ whole * 2 ^ (suc f + d)
finer k whole m f d is small full =
    let up : 2 ^ suc f ≤ 2 ^ (suc f + d) = pow_mono (omega arith) in
    let high : m * 2 ^ f ≤ 2 ^ 53 * 2 ^ f = mul-le-mul_right (2 ^ f) (omega (arith, small)) in
    let wide : 2 ^ 52 * 2 ^ suc f ≤ whole * 2 ^ (suc f + d) = mul-le _ _ _ _ full up in
    omega (arith, is, high, wide)

-- no short number lies strictly between two multiples of the step, where the lower one is full
pub between : (k whole e : ℕ) → (e ≡ 0) ⊎ (2 ^ 52 ≤ whole) → Short k → (k ≤ whole * 2 ^ e) ⊎ (whole * 2 ^ e + 2 ^ e ≤ k)
between k whole e full s = by (cases_lt s.e e) full
  where
    coarse : (d : ℕ) → s.e ≡ d + e → (k ≤ whole * 2 ^ e) ⊎ (whole * 2 ^ e + 2 ^ e ≤ k)
    coarse d is = multiple k whole (s.m * 2 ^ d) (2 ^ e) (s.is ∙ ap (λ x. s.m * 2 ^ x) is ∙ ap (λ x. s.m * x) (pow-add 2 d e) ∙ sym (mul_assoc s.m (2 ^ d) (2 ^ e))) (cases_lt whole (s.m * 2 ^ d))

    by : (s.e < e) ⊎ (e ≤ s.e) → (e ≡ 0) ⊎ (2 ^ 52 ≤ whole) → (k ≤ whole * 2 ^ e) ⊎ (whole * 2 ^ e + 2 ^ e ≤ k)
    by (inl less) (inl none) = absurd (omega (arith, less, none))
    by (inl less) (inr high) = let e_is : suc s.e + (e - suc s.e) ≡ e = omega (arith, less) in inl (subst (λ x. k ≤ whole * 2 ^ x) e_is (finer k whole s.m s.e (e - suc s.e) s.is s.small high))
    by (inr more) some = coarse (s.e - e) (omega (arith, more))

pub step_positive : (v step : ℕ) → Steps v step → 0 < step
step_positive v step s = subst (λ x. 0 < x) (sym s.is) (pow_pos s.e)

module _ (v step whole rest : ℕ) (s : Steps v step) (split : v ≡ whole * step + rest) (below : rest < step) where
  small : whole < 2 ^ 53
  small = by (cases_lt whole (2 ^ 53))
    where
      by : (whole < 2 ^ 53) ⊎ (2 ^ 53 ≤ whole) → whole < 2 ^ 53
      by (inl less) = less
      by (inr more) = let high : 2 ^ 53 * step ≤ whole * step = mul-le-mul_right step more in absurd (omega (arith, s.fits, split, high))

  full : (s.e ≡ 0) ⊎ (2 ^ 52 ≤ whole)
  full = by s.full (cases_lt whole (2 ^ 52))
    where
      by : (step ≡ 1) ⊎ (2 ^ 52 * step ≤ v) → (whole < 2 ^ 52) ⊎ (2 ^ 52 ≤ whole) → (s.e ≡ 0) ⊎ (2 ^ 52 ≤ whole)
      by one (inr more) = inr more
      by (inl one) less = inl (no_power s.e (sym s.is ∙ one))
      by (inr high) (inl less) = let wide : suc whole * step ≤ 2 ^ 52 * step = mul-le-mul_right step less in absurd (omega (arith, high, split, below, wide))

  sides : (k : ℕ) → Short k → (k ≤ whole * step) ⊎ (whole * step + step ≤ k)
  sides k short = subst (λ p. (k ≤ whole * p) ⊎ (whole * p + p ≤ k)) (sym s.is) (between k whole s.e full short)

  pub down : 2 * rest ≤ step → (2 * rest ≡ step → whole % 2 ≡ 0) → Near v (whole * step)
  down near tie = record {
    short = record { m = whole; e = s.e; small = small; is = ap (λ p. whole * p) s.is };
    least = λ k short. closer k (sides k short);
    even = λ k short other same. evenly k other same (sides k short);
  }
    where
      closer : (k : ℕ) → (k ≤ whole * step) ⊎ (whole * step + step ≤ k) → apart v (whole * step) ≤ apart v k
      closer k (inl low) = omega (arith, low, split, near)
      closer k (inr high) = omega (arith, high, split, near, below)

      evenly : (k : ℕ) → whole * step ≢ k → apart v (whole * step) ≡ apart v k → (k ≤ whole * step) ⊎ (whole * step + step ≤ k) → Even (whole * step) k
      evenly k other same (inl low) = absurd (other (omega (arith, low, split, same)))
      evenly k other same (inr high) =
          let half : 2 * rest ≡ step = omega (arith, high, split, same, near) in
          record { e = s.e; differ = omega (arith, high, split, same, near, s.is); times = whole / 2; multiple = twice whole step s.e s.is (tie half) }

  pub up : step ≤ 2 * rest → (2 * rest ≡ step → whole % 2 ≡ 1) → Near v (whole * step + step)
  up near tie = record {
    short = next whole step s.e s.is small;
    least = λ k short. closer k (sides k short);
    even = λ k short other same. evenly k other same (sides k short);
  }
    where
      closer : (k : ℕ) → (k ≤ whole * step) ⊎ (whole * step + step ≤ k) → apart v (whole * step + step) ≤ apart v k
      closer k (inl low) = omega (arith, low, split, near, below)
      closer k (inr high) = omega (arith, high, split, near, below)

      evenly : (k : ℕ) → whole * step + step ≢ k → apart v (whole * step + step) ≡ apart v k → (k ≤ whole * step) ⊎ (whole * step + step ≤ k) → Even (whole * step + step) k
      evenly k other same (inr high) = absurd (other (omega (arith, high, split, same, below)))
      evenly k other same (inl low) =
          let half : 2 * rest ≡ step = omega (arith, low, split, same, near, below) in
          record { e = s.e; differ = omega (arith, low, split, same, near, below, s.is); times = suc whole / 2; multiple = twice_next whole step s.e s.is (tie half) }

  pub near_up : IsUp whole rest step → Near v (whole * step + step)
  near_up u = up u.near u.tie

  pub near_down : IsDown whole rest step → Near v (whole * step)
  near_down u = down u.near u.tie
