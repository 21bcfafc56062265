-- One number lies nearest, and those that round to it lie together.
use Rattle.std.proofs.Common.{◌≡◌, ℕ, suc, ◌+◌, ◌*◌, ◌^◌, ◌<◌, ◌≤◌, ◌⊎◌, inl, inr, ◌≢◌, sym, ap, ◌∙◌, arith}
use Rattle.std.proofs.lemmas.Nat.{pow_pos, mul-le}
use Rattle.std.proofs.Math.Nat.{pow-suc, mul_comm}
use Rattle.std.proofs.lemmas.Bool.{cases_lt, cases_eq}
use Rattle.widl_value.specs.Near.{Short, Near, Even, apart}

-- a short number is the nearest to itself
pub near_self : (x : ℕ) → Short x → Near x x
near_self x short = record {
  short = short;
  least = λ k s. omega arith;
  even = λ k s other same. absurd (other (omega (arith, same)));
}

-- two even ones that differ by a power of two are one
apart_even : (a b e s t : ℕ) → a ≡ s * 2 ^ (e + 1) → b ≡ t * 2 ^ (e + 1) → apart a b ≡ 2 ^ e → ⊥
apart_even a b e s t is that differ = by (cases_lt s t)
  where
    double : 2 ^ (e + 1) ≡ 2 * 2 ^ e
    double = let more : e + 1 ≡ suc e = omega arith in ap (λ n. 2 ^ n) more ∙ pow-suc 2 e ∙ mul_comm (2 ^ e) 2

    some : 0 < 2 ^ e
    some = pow_pos e

    by : (s < t) ⊎ (t ≤ s) → ⊥
    by (inl less) = let gap : suc s * 2 ^ (e + 1) ≤ t * 2 ^ (e + 1) = mul-le _ _ _ _ less (omega arith) in omega (arith, is, that, differ, double, some, gap)
    by (inr more) = at (cases_lt t s)
      where
        at : (t < s) ⊎ (s ≤ t) → ⊥
        at (inl above) = let gap : suc t * 2 ^ (e + 1) ≤ s * 2 ^ (e + 1) = mul-le _ _ _ _ above (omega arith) in omega (arith, is, that, differ, double, some, gap)
        at (inr same) = let one : s ≡ t = omega (arith, more, same) in let equal : a ≡ b = is ∙ ap (λ x. x * 2 ^ (e + 1)) one ∙ sym that in omega (arith, differ, some, equal)

pub near_unique : (v a b : ℕ) → Near v a → Near v b → a ≡ b
near_unique v a b x y = by (cases_eq a b)
  where
    by : (a ≡ b) ⊎ (a ≡ b → ⊥) → a ≡ b
    by (inl same) = same
    by (inr other) =
        let near : apart v a ≡ apart v b = (let l = x.least b y.short in let m = y.least a x.short in omega (arith, l, m)) in
        let p = x.even b y.short other near in
        let q = y.even a x.short (λ e. other (sym e)) (sym near) in
        let d = p.differ in let f = q.differ in
        let powers : 2 ^ q.e ≡ 2 ^ p.e = omega (arith, d, f) in
        let multiple : b ≡ q.times * 2 ^ (p.e + 1) = q.multiple ∙ ap (λ n. q.times * n) (next q.e ∙ ap (λ n. 2 * n) powers ∙ sym (next p.e)) in
        absurd (apart_even a b p.e p.times q.times p.multiple multiple p.differ)
      where
        next : (e : ℕ) → 2 ^ (e + 1) ≡ 2 * 2 ^ e
        next e = let more : e + 1 ≡ suc e = omega arith in ap (λ n. 2 ^ n) more ∙ pow-suc 2 e ∙ mul_comm (2 ^ e) 2

-- what lies between x and a number that rounds to x rounds to x too
pub near_above : (x u w : ℕ) → Near u x → u ≤ w → w ≤ x → Near w x
near_above x u w n low high = record {
  short = n.short;
  least = λ k s. closer k (n.least k s);
  even = λ k s other same. n_even k s other same (n.least k s);
}
  where
    closer : (k : ℕ) → apart u x ≤ apart u k → apart w x ≤ apart w k
    closer k l = omega (arith, l, low, high)

    n_even : (k : ℕ) → Short k → x ≢ k → apart w x ≡ apart w k → apart u x ≤ apart u k → Even x k
    n_even k s other same l = n.even k s other (tie k other same l (cases_lt k w))
      where
        tie : (k : ℕ) → x ≢ k → apart w x ≡ apart w k → apart u x ≤ apart u k → (k < w) ⊎ (w ≤ k) → apart u x ≡ apart u k
        tie k other same l (inl less) = omega (arith, l, low, high, same, less)
        tie k other same l (inr more) = absurd (other (omega (arith, more, high, same)))

pub near_below : (x u w : ℕ) → Near u x → w ≤ u → x ≤ w → Near w x
near_below x u w n high low = record {
  short = n.short;
  least = λ k s. closer k (n.least k s);
  even = λ k s other same. n_even k s other same (n.least k s);
}
  where
    closer : (k : ℕ) → apart u x ≤ apart u k → apart w x ≤ apart w k
    closer k l = omega (arith, l, low, high)

    n_even : (k : ℕ) → Short k → x ≢ k → apart w x ≡ apart w k → apart u x ≤ apart u k → Even x k
    n_even k s other same l = n.even k s other (tie k other same l (cases_lt w k))
      where
        tie : (k : ℕ) → x ≢ k → apart w x ≡ apart w k → apart u x ≤ apart u k → (w < k) ⊎ (k ≤ w) → apart u x ≡ apart u k
        tie k other same l (inl more) = omega (arith, l, low, high, same, more)
        tie k other same l (inr less) = absurd (other (omega (arith, less, low, same)))
