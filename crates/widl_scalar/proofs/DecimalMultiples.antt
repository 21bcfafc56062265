-- The numbers of a few digits around x are two multiples of a power of ten.
use Rattle.std.proofs.Common.{◌≡◌, ℕ, suc, zero, ◌+◌, ◌-◌, ◌*◌, ◌%◌, ◌^◌, ◌<◌, ◌≤◌, ◌⊎◌, inl, inr, Option, Some, ◌≢◌, refl, sym, ap, subst, ◌∙◌, arith}
use Rattle.std.proofs.lemmas.Nat.{pow-add, mul-le, mul-pow}
use Rattle.std.proofs.Math.Nat.{mul-le-mul_right, mul_assoc, mul_comm, pow-suc, pow-le-pow_right}
use Rattle.std.proofs.lemmas.Bool.{cases_lt}
use Rattle.std.specs.Option.{unwrap_or}
use Rattle.widl_value.specs.Steps.{IsUp, IsDown}
use Rattle.widl_value.specs.Near.{Short, Near, apart}
use Rattle.widl_scalar.specs.ShortestDigits.{Digits, Shortest}
use Rattle.widl_scalar.specs.DecimalSteps.{Tens, NoneOf}
use Rattle.widl_value.proofs.ShortNumbers.{multiple, one_more, one_times}
use Rattle.widl_value.proofs.NearUnique.{near_self, near_unique, near_above, near_below}

ten_positive : (e : ℕ) → 0 < 10 ^ e
ten_positive zero = omega arith
ten_positive (suc e) = let some : 0 < 10 ^ e = ten_positive e in let next : 10 ^ suc e ≡ 10 ^ e * 10 = pow-suc 10 e in omega (arith, some, next)

no_ten : (e : ℕ) → 10 ^ e ≡ 1 → e ≡ 0
no_ten zero is = refl
no_ten (suc e) is = let some : 0 < 10 ^ e = ten_positive e in let next : 10 ^ suc e ≡ 10 ^ e * 10 = pow-suc 10 e in absurd (omega (arith, is, some, next))

finer : (k whole m f d n : ℕ) → k ≡ m * 10 ^ f → m < 10 ^ suc n → 10 ^ n ≤ whole → k ≤ whole * 10 ^ (suc f + d)
finer k whole m f d n is small full =
    let up : 10 ^ suc f ≤ 10 ^ (suc f + d) = pow-le-pow_right (omega arith) (omega arith) in
    let high : m * 10 ^ f ≤ 10 ^ suc n * 10 ^ f = mul-le-mul_right (10 ^ f) (omega (arith, small)) in
    let wide : 10 ^ n * 10 ^ suc f ≤ whole * 10 ^ (suc f + d) = mul-le _ _ _ _ full up in
    let left : 10 ^ suc n * 10 ^ f ≡ 10 ^ n * 10 ^ suc f = ap (λ x. x * 10 ^ f) (pow-suc 10 n) ∙ mul_assoc (10 ^ n) 10 (10 ^ f) ∙ ap (λ x. 10 ^ n * x) (mul_comm 10 (10 ^ f) ∙ sym (pow-suc 10 f)) in
    omega (arith, is, high, wide, left)

between : (k whole e n : ℕ) → (e ≡ 0) ⊎ (10 ^ n ≤ whole) → Digits (suc n) k → (k ≤ whole * 10 ^ e) ⊎ (whole * 10 ^ e + 10 ^ e ≤ k)
between k whole e n full s = by (cases_lt s.e e) full
  where
    coarse : (d : ℕ) → s.e ≡ d + e → (k ≤ whole * 10 ^ e) ⊎ (whole * 10 ^ e + 10 ^ e ≤ k)
    coarse d is = multiple k whole (s.m * 10 ^ d) (10 ^ e) (s.is ∙ ap (λ x. s.m * 10 ^ x) is ∙ ap (λ x. s.m * x) (pow-add 10 d e) ∙ sym (mul_assoc s.m (10 ^ d) (10 ^ e))) (cases_lt whole (s.m * 10 ^ d))

    by : (s.e < e) ⊎ (e ≤ s.e) → (e ≡ 0) ⊎ (10 ^ n ≤ whole) → (k ≤ whole * 10 ^ e) ⊎ (whole * 10 ^ e + 10 ^ e ≤ k)
    by (inl less) (inl none) = absurd (omega (arith, less, none))
    by (inl less) (inr high) = let e_is : suc s.e + (e - suc s.e) ≡ e = omega (arith, less) in inl (subst (λ x. k ≤ whole * 10 ^ x) e_is (finer k whole s.m s.e (e - suc s.e) n s.is s.small high))
    by (inr more) some = coarse (s.e - e) (omega (arith, more))

-- fewer digits are at most as many
pub wider : (k n w : ℕ) → k ≤ n → Digits k w → Digits n w
wider k n w more d = record { m = d.m; e = d.e; small = (let up : 10 ^ k ≤ 10 ^ n = pow-le-pow_right (omega arith) more in let s = d.small in omega (arith, up, s)); is = d.is }

module _ (x n step whole rest : ℕ) (short : Short x) (s : Tens x n step) (split : x ≡ whole * step + rest) (below : rest < step) where
  small : whole < 10 ^ suc n
  small = by (cases_lt whole (10 ^ suc n))
    where
      by : (whole < 10 ^ suc n) ⊎ (10 ^ suc n ≤ whole) → whole < 10 ^ suc n
      by (inl less) = less
      by (inr more) = let high : 10 ^ suc n * step ≤ whole * step = mul-le-mul_right step more in let f = s.fits in absurd (omega (arith, f, split, high))

  full : (s.e ≡ 0) ⊎ (10 ^ n ≤ whole)
  full = by s.full (cases_lt whole (10 ^ n))
    where
      by : (step ≡ 1) ⊎ (10 ^ n * step ≤ x) → (whole < 10 ^ n) ⊎ (10 ^ n ≤ whole) → (s.e ≡ 0) ⊎ (10 ^ n ≤ whole)
      by one (inr more) = inr more
      by (inl one) less = inl (no_ten s.e (sym s.is ∙ one))
      by (inr high) (inl less) = let wide : suc whole * step ≤ 10 ^ n * step = mul-le-mul_right step less in absurd (omega (arith, high, split, below, wide))

  sides : (u : ℕ) → Digits (suc n) u → (u ≤ whole * step) ⊎ (whole * step + step ≤ u)
  sides u d = subst (λ p. (u ≤ whole * p) ⊎ (whole * p + p ≤ u)) (sym s.is) (between u whole s.e n full d)

  abbrev low : Digits (suc n) (whole * step)
  low = record { m = whole; e = s.e; small = small; is = ap (λ p. whole * p) s.is }

  -- what rounds to x from one side lets the nearer multiple round to x
  from_low : (u : ℕ) → Near u x → u ≤ whole * step → Near (whole * step) x
  from_low u near under = near_above x u (whole * step) near under (omega (arith, split))

  from_high : (u : ℕ) → Near u x → whole * step + step ≤ u → Near (whole * step + step) x
  from_high u near over = near_below x u (whole * step + step) near over (omega (arith, split, below))

  -- where neither multiple rounds to x, no number of so many digits does
  pub none_more : (Near (whole * step) x → ⊥) → (Near (whole * step + step) x → ⊥) → NoneOf x (suc n)
  none_more lower upper k u most d near = by (sides u (wider k (suc n) u most d))
    where
      by : (u ≤ whole * step) ⊎ (whole * step + step ≤ u) → ⊥
      by (inl under) = lower (from_low u near under)
      by (inr over) = upper (from_high u near over)

  fewest : NoneOf x n → (k u : ℕ) → Digits k u → Near u x → suc n ≤ k
  fewest none k u d near = by (cases_lt n k)
    where
      by : (n < k) ⊎ (k ≤ n) → suc n ≤ k
      by (inl more) = more
      by (inr most) = absurd (none k u most d near)

  pub lower_shortest : NoneOf x n → Near (whole * step) x → (Near (whole * step + step) x → (2 * rest ≤ step) × (2 * rest ≡ step → whole % 2 ≡ 0)) → Shortest x (whole * step)
  lower_shortest none near upper = record {
    n = suc n;
    digits = low;
    rounds = near;
    fewest = fewest none;
    closest = λ u d round. closer u round (sides u d);
    even = λ u d round other same. evenly u round other same (sides u d);
  }
    where
      closer : (u : ℕ) → Near u x → (u ≤ whole * step) ⊎ (whole * step + step ≤ u) → apart x (whole * step) ≤ apart x u
      closer u round (inl under) = omega (arith, under, split)
      closer u round (inr over) = let e = (upper (from_high u round over)).0 in omega (arith, over, split, below, e)

      evenly : (u : ℕ) → Near u x → whole * step ≢ u → apart x (whole * step) ≡ apart x u → (u ≤ whole * step) ⊎ (whole * step + step ≤ u) → whole % 2 ≡ 0
      evenly u round other same (inl under) = absurd (other (omega (arith, under, split, same)))
      evenly u round other same (inr over) = let e = upper (from_high u round over) in let l = e.0 in e.1 (omega (arith, over, split, same, l, below))

  -- one more multiple, where no carry comes
  abbrev high_plain : suc whole < 10 ^ suc n → Digits (suc n) (whole * step + step)
  high_plain less = record { m = suc whole; e = s.e; small = less; is = one_more whole step ∙ ap (λ p. suc whole * p) s.is }

  -- where one comes it is a power of ten
  carried : suc whole ≡ 10 ^ suc n → whole * step + step ≡ 1 * 10 ^ (suc n + s.e)
  carried top = one_more whole step ∙ ap (λ w. w * step) top ∙ ap (λ p. 10 ^ suc n * p) s.is ∙ sym (pow-add 10 (suc n) s.e) ∙ sym (one_times (10 ^ (suc n + s.e)))

  high_carried : (d : ℕ) → 1 < 10 ^ d → suc whole ≡ 10 ^ suc n → Digits d (whole * step + step)
  high_carried d some top = record { m = 1; e = suc n + s.e; small = some; is = carried top }

  high_closer : (Near (whole * step) x → step ≤ 2 * rest) → (u : ℕ) → Near u x → (u ≤ whole * step) ⊎ (whole * step + step ≤ u) → apart x (whole * step + step) ≤ apart x u
  high_closer lower u round (inl under) = let e = lower (from_low u round under) in omega (arith, under, split, below, e)
  high_closer lower u round (inr over) = omega (arith, over, split, below)

  -- another as near is the lower multiple
  high_tie : (Near (whole * step) x → step ≤ 2 * rest) → (u : ℕ) → Near u x → whole * step + step ≢ u → apart x (whole * step + step) ≡ apart x u → (u ≤ whole * step) ⊎ (whole * step + step ≤ u) → Near (whole * step) x × (2 * rest ≡ step)
  high_tie lower u round other same (inl under) = let e = lower (from_low u round under) in (from_low u round under, omega (arith, under, split, same, below, e))
  high_tie lower u round other same (inr over) = absurd (other (omega (arith, over, split, same, below)))

  pub upper_shortest : NoneOf x n → Near (whole * step + step) x → (Near (whole * step) x → (step ≤ 2 * rest) × (2 * rest ≡ step → suc whole % 2 ≡ 0)) → (Near (whole * step) x → 0 < rest → n ≡ 0 → suc whole ≡ 10 → ⊥) → Shortest x (whole * step + step)
  upper_shortest none near lower nine = by (cases_lt (suc whole) (10 ^ suc n))
    where
      nearer : Near (whole * step) x → step ≤ 2 * rest
      nearer round = (lower round).0

      carry : (j : ℕ) → n ≡ j → suc whole ≡ 10 ^ suc n → Shortest x (whole * step + step)
      carry zero is top = record {
        n = suc n;
        digits = high_carried (suc n) (subst (λ j. 1 < 10 ^ suc j) (sym is) (omega arith)) top;
        rounds = near;
        fewest = fewest none;
        closest = λ u d round. high_closer nearer u round (sides u d);
        even = λ u d round other same. let t = high_tie nearer u round other same (sides u d) in let half = t.1 in
            absurd (nine t.0 (omega (arith, half, below)) is (top ∙ ap (λ j. 10 ^ suc j) is));
      }
      carry (suc j) is top = absurd (none 1 (whole * step + step) (omega (arith, is)) (high_carried 1 (omega arith) top) near)

      by : (suc whole < 10 ^ suc n) ⊎ (10 ^ suc n ≤ suc whole) → Shortest x (whole * step + step)
      by (inr more) = let less = small in carry n refl (omega (arith, more, less))
      by (inl less) = record {
        n = suc n;
        digits = high_plain less;
        rounds = near;
        fewest = fewest none;
        closest = λ u d round. high_closer nearer u round (sides u d);
        even = λ u d round other same. let t = high_tie nearer u round other same (sides u d) in (lower t.0).1 t.1;
      }

-- nine and zeros is a short number
nine_short : (e : ℕ) → e < 20 → Short (9 * 10 ^ e)
nine_short e less = record {
  m = 9 * 5 ^ e;
  e = e;
  small = (let up : 5 ^ e ≤ 5 ^ 19 = pow-le-pow_right {n = 5} (omega arith) {i = e} {j = 19} (omega (arith, less)) in omega (arith, up));
  is = ap (λ p. 9 * p) (mul-pow 5 2 e) ∙ sym (mul_assoc 9 (5 ^ e) (2 ^ e));
}

pub no_nine : (x step whole rest : ℕ) (s : Tens x 0 step) → x < 10 ^ 20 → x ≡ whole * step + rest → rest < step → Near (whole * step) x → 0 < rest → suc whole ≡ 10 → ⊥
no_nine x step whole rest s limit split below near some top = by s.full (cases_lt s.e 20)
  where
    nine : whole ≡ 9
    nine = omega (arith, top)

    ends : s.e < 20 → ⊥
    ends less =
        let is : whole * step ≡ 9 * 10 ^ s.e = ap (λ w. w * step) nine ∙ ap (λ p. 9 * p) s.is in
        let own : Near (whole * step) (whole * step) = near_self (whole * step) (subst Short (sym is) (nine_short s.e less)) in
        let same : x ≡ whole * step = near_unique (whole * step) x (whole * step) near own in
        omega (arith, same, split, some)

    by : (step ≡ 1) ⊎ (10 ^ 0 * step ≤ x) → (s.e < 20) ⊎ (20 ≤ s.e) → ⊥
    by _ (inl less) = ends less
    by (inl one) (inr more) = let none = no_ten s.e (sym s.is ∙ one) in omega (arith, none, more)
    by (inr high) (inr more) = let up : 10 ^ 20 ≤ 10 ^ s.e = pow-le-pow_right (omega arith) more in let p = s.is in omega (arith, high, up, p, limit)

-- a step on the way
pub record Tenth (x limit step : ℕ) : Type 0 where
  pub e : ℕ
  pub is : step ≡ 10 ^ e
  pub positive : 0 < step
  pub most : step ≤ 10 ^ 20
  pub full : (step ≡ 1) ⊎ (limit * step ≤ 10 * x)

pub tenth_next : (x limit step : ℕ) → Tenth x limit step → x < 10 ^ 20 → 10 ≤ limit → limit * step ≤ x → Tenth x limit (step * 10)
tenth_next x limit step t small ten above =
    let p = t.positive in
    let up : 10 * step ≤ limit * step = mul-le-mul_right step ten in
    record { e = suc t.e; is = ap (λ p. p * 10) t.is ∙ sym (pow-suc 10 t.e); positive = omega (arith, p); most = omega (arith, up, above, small); full = inr (omega (arith, above)) }

pub tens_of : (x limit step n : ℕ) → Tenth x limit step → x < limit * step → limit ≡ 10 ^ suc n → Tens x n step
tens_of x limit step n t less is =
    let more : limit * step ≡ 10 * (10 ^ n * step) = ap (λ l. l * step) (is ∙ pow-suc 10 n ∙ mul_comm (10 ^ n) 10) ∙ mul_assoc 10 (10 ^ n) step in
    record { e = t.e; is = t.is; fits = subst (λ l. x < l * step) is less; full = by more t.full }
  where
    by : limit * step ≡ 10 * (10 ^ n * step) → (step ≡ 1) ⊎ (limit * step ≤ 10 * x) → (step ≡ 1) ⊎ (10 ^ n * step ≤ x)
    by more (inl one) = inl one
    by more (inr high) = inr (omega (arith, more, high))

from_some : (a b : ℕ) → ◌≡◌ {A = Option ℕ} (Some a) (Some b) → a ≡ b
from_some a b is = ap (λ o. unwrap_or o 0) is

module _ (x step whole rest : ℕ) (short : Short x) (limit : x < 10 ^ 20) (split : x ≡ whole * step + rest) (below : rest < step) where
  pub high_taken : Near (whole * step + step) x → (Near (whole * step) x → IsUp whole rest step) → (w : ℕ) → ◌≡◌ {A = Option ℕ} (Some (whole * step + step)) (Some w) → (n : ℕ) → Tens x n step → NoneOf x n → Shortest x w
  high_taken near up w is n t none =
      subst (Shortest x) (from_some _ _ is) (upper_shortest x n step whole rest short t split below none near
      (λ low. let u = up low in (u.near, λ half. let odd = u.tie half in omega (arith, odd)))
      (λ low some zero_ top. no_nine x step whole rest (subst (λ j. Tens x j step) zero_ t) limit split below low some top))

  pub low_taken : Near (whole * step) x → (Near (whole * step + step) x → IsDown whole rest step) → (w : ℕ) → ◌≡◌ {A = Option ℕ} (Some (whole * step)) (Some w) → (n : ℕ) → Tens x n step → NoneOf x n → Shortest x w
  low_taken near down w is n t none =
      subst (Shortest x) (from_some _ _ is) (lower_shortest x n step whole rest short t split below none near (λ high. let d = down high in (d.near, d.tie)))

  pub none_taken : (Near (whole * step) x → ⊥) → (Near (whole * step + step) x → ⊥) → (n : ℕ) → Tens x n step → NoneOf x (suc n)
  none_taken low high n t = none_more x n step whole rest short t split below low high

-- numbers of fewer digits than the limit's were tried
pub record Digit (x limit : ℕ) : Type 0 where
  pub n : ℕ
  pub is : limit ≡ 10 ^ suc n
  pub few : n < 20
  pub ten : 10 ≤ limit
  pub most : limit ≤ 10 ^ 20
  pub none : NoneOf x n

-- no text has no digits
unfoldable pub digit_first : (x : ℕ) → 0 < x → Digit x 10
digit_first x some = record { n = 0; is = refl; few = omega arith; ten = omega arith; most = omega arith; none = none }
  where
    none : NoneOf x 0
    none k u most d near =
        let one : Digits 0 u = wider k 0 u most d in
        let less = one.small in
        let nothing : one.m ≡ 0 = omega (arith, less) in
        let zeros : u ≡ 0 = one.is ∙ ap (λ m. m * 10 ^ one.e) nothing ∙ omega arith in
        let same : x ≡ 0 = near_unique 0 x 0 (subst (λ v. Near v x) zeros near) (near_self 0 (record { m = 0; e = 0; small = omega arith; is = refl })) in
        omega (arith, same, some)

-- twenty digits are enough
pub digit_more : (x limit : ℕ) → Short x → x < 10 ^ 20 → (d : Digit x limit) → NoneOf x (suc d.n) → suc d.n < 20
digit_more x limit short small d none = by (cases_lt (suc d.n) 20)
  where
    by : (suc d.n < 20) ⊎ (20 ≤ suc d.n) → suc d.n < 20
    by (inl less) = less
    by (inr more) = absurd (none 20 x more (record { m = x; e = 0; small = small; is = omega arith }) (near_self x short))

unfoldable pub digit_next : (x limit : ℕ) → Short x → x < 10 ^ 20 → (d : Digit x limit) → NoneOf x (suc d.n) → Digit x (limit * 10)
digit_next x limit short small d none =
    let few = digit_more x limit short small d none in
    let is : limit * 10 ≡ 10 ^ suc (suc d.n) = ap (λ l. l * 10) d.is ∙ sym (pow-suc 10 (suc d.n)) in
    let most : 10 ^ suc (suc d.n) ≤ 10 ^ 20 = pow-le-pow_right {n = 10} (omega arith) {i = suc (suc d.n)} {j = 20} (omega (arith, few)) in
    let ten = d.ten in
    record { n = suc d.n; is = is; few = few; ten = omega (arith, ten); most = omega (arith, is, most); none = none }

pub digit_smaller : (x limit : ℕ) → Digit x limit → Digit x (limit * 10) → 10 ^ 20 - limit * 10 < 10 ^ 20 - limit
digit_smaller x limit d e = let ten = d.ten in let most = e.most in omega (arith, ten, most)
