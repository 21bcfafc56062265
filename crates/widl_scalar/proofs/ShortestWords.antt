-- The shortest digits that are computed are those that are found.
use Rattle.std.proofs.Common.{◌≡◌, ◌≢◌, ℕ, suc, zero, ◌+◌, ◌*◌, ◌/◌, ◌%◌, ◌^◌, ◌<◌, ◌≤◌, ◌⊎◌, inl, inr, Bool, true, false, Option, Some, None, refl, sym, ap, subst, ◌∙◌, arith}
use Rattle.std.specs.Prelude.{if◌then◌else◌}
use Rattle.std.specs.Option.{unwrap_or}
use Rattle.std.proofs.lemmas.Nat.{div_below, mul-pow}
use Rattle.std.proofs.Math.Nat.{mul-le-mul_left, mul_assoc, mul_comm, pow-suc, pow-le-pow_right}
use Rattle.std.proofs.lemmas.Bool.{cases_lt}
use Rattle.std.proofs.lemmas.Bool.Decides.{nat_tests}
use Rattle.widl_value.specs.Near.{Short}
use Rattle.widl_value.specs.Rounding.{goes_up, near_of, rounded}
use Rattle.widl_value.proofs.NearUnique.{near_self, near_unique}
use Rattle.widl_value.proofs.NearWords.{near_of_near}
use Rattle.widl_scalar.specs.ShortestDigits.{multiple_at, rounds_to, shortest_from, shortest_of}
use Rattle.widl_scalar.specs.DecimalSteps.{Tens}

-- a short number is the nearest to itself
pub near_of_short : (n : ℕ) → n < 2 ^ 128 → Short n → near_of n ≡ n
near_of_short n room short = near_unique n _ _ (near_of_near n room) (near_self n short)

ten_short : (k : ℕ) → k ≤ 20 → Short (10 ^ k)
ten_short k few = record {
  m = 5 ^ k;
  e = k;
  small = (let up : 5 ^ k ≤ 5 ^ 20 = pow-le-pow_right {n = 5} (omega arith) {i = k} {j = 20} few in omega (arith, up));
  is = mul-pow 5 2 k;
}

ten_room : (k : ℕ) → k ≤ 20 → 10 ^ k < 2 ^ 128
ten_room k few = let up : 10 ^ k ≤ 10 ^ 20 = pow-le-pow_right {n = 10} (omega arith) {i = k} {j = 20} few in omega (arith, up)

misses : (n x : ℕ) → near_of n ≡ n → n ≢ x → rounds_to n x ≡ false
misses n x is other = rw is (grind (arith, nat_tests))

hits : (n x : ℕ) → near_of n ≡ x → rounds_to n x ≡ true
hits n x is = rw is (grind (arith, nat_tests))

no_multiple : (low step x : ℕ) → rounds_to (low + step) x ≡ false → rounds_to low x ≡ false
    → ◌≡◌ {A = Option ℕ} (if rounds_to (low + step) x then (if rounds_to low x then Some (rounded step x) else Some (low + step)) else if rounds_to low x then Some low else None) None
no_multiple low step x high under = simp (high, under)

none_over : (x step : ℕ) → x < step → x / step ≡ 0
none_over x step less = let some : x / step < 1 = div_below x step 1 (omega (arith, less)) (omega (arith, less)) in omega (arith, some)

-- no multiple of a power of ten above x rounds to x
none_far : (k x : ℕ) → k ≤ 20 → 0 < x → x < 10 ^ k → multiple_at (10 ^ k) x ≡ None
none_far k x few some less =
    let none : x / 10 ^ k * 10 ^ k ≡ 0 = ap (λ q. q * 10 ^ k) (none_over x (10 ^ k) less) ∙ omega arith in
    let zero_short : Short 0 = record { m = 0; e = 0; small = omega arith; is = omega arith } in
    let under : rounds_to (x / 10 ^ k * 10 ^ k) x ≡ false = subst (λ n. rounds_to n x ≡ false) (sym none) (misses 0 x (near_of_short 0 (omega arith) zero_short) (λ e. omega (arith, e, some))) in
    let sum : x / 10 ^ k * 10 ^ k + 10 ^ k ≡ 10 ^ k = omega (arith, none) in
    let above : rounds_to (x / 10 ^ k * 10 ^ k + 10 ^ k) x ≡ false = subst (λ n. rounds_to n x ≡ false) (sym sum) (misses (10 ^ k) x (near_of_short (10 ^ k) (ten_room k few) (ten_short k few)) (λ e. omega (arith, e, less))) in
    no_multiple (x / 10 ^ k * 10 ^ k) (10 ^ k) x above under

-- x is the multiple of 1
own_multiple : (x : ℕ) → x < 2 ^ 128 → Short x → (b : Bool) → rounds_to (x / 1 * 1 + 1) x ≡ b → multiple_at 1 x ≡ Some x
own_multiple x room short b is =
    let one : x / 1 * 1 ≡ x = omega arith in
    let own : rounds_to (x / 1 * 1) x ≡ true = subst (λ n. rounds_to n x ≡ true) (sym one) (hits x x (near_of_short x room short)) in
    by b is one own
  where
    even : goes_up (x / 1) (x % 1) 1 ≡ false
    even = let none : x % 1 ≡ 0 = omega arith in grind (arith, nat_tests)

    by : (b : Bool) → rounds_to (x / 1 * 1 + 1) x ≡ b → x / 1 * 1 ≡ x → rounds_to (x / 1 * 1) x ≡ true → multiple_at 1 x ≡ Some x
    by true high one own = simp (high, own, even) (ap Some one)
    by false high one own = simp (high, own) (ap Some one)

taken_here : (e x w : ℕ) → x < 2 ^ 128 → Short x → multiple_at (10 ^ e) x ≡ Some w → shortest_from e x ≡ w
unfolding shortest_from
taken_here zero x w room short is = let own = own_multiple x room short (rounds_to (x / 1 * 1 + 1) x) refl in ap (λ o. unwrap_or o 0) (sym own ∙ is)
taken_here (suc e) x w room short is = ap (λ o. unwrap_or o (shortest_from e x)) is

-- the powers of ten above x are passed over
passes : (k e x : ℕ) → e ≤ k → k ≤ 20 → 0 < x → x < 10 * 10 ^ e → shortest_from k x ≡ shortest_from e x
unfolding shortest_from
passes zero e x most few some less = let none : zero ≡ e = omega (arith, most) in ap (λ j. shortest_from j x) none
passes (suc k) e x most few some less = by (λ below. passes k e x below (omega (arith, few)) some less) (cases_lt e (suc k))
  where
    by : (e ≤ k → shortest_from k x ≡ shortest_from e x) → (e < suc k) ⊎ (suc k ≤ e) → shortest_from (suc k) x ≡ shortest_from e x
    by further (inr all) = let same : suc k ≡ e = omega (arith, all, most) in ap (λ j. shortest_from j x) same
    by further (inl below) =
        let up : 10 ^ suc e ≤ 10 ^ suc k = pow-le-pow_right {n = 10} (omega arith) {i = suc e} {j = suc k} (omega (arith, below)) in
        let next : 10 ^ suc e ≡ 10 ^ e * 10 = pow-suc 10 e in
        let far : multiple_at (10 ^ suc k) x ≡ None = none_far (suc k) x few some (omega (arith, up, next, less)) in
        ap (λ o. unwrap_or o (shortest_from k x)) far ∙ further (omega (arith, below))

-- the power of ten that leaves n + 1 digits of x
pub record Leaves (x n e : ℕ) : Type 0 where
  pub fits : x < 10 ^ suc n * 10 ^ e
  pub full : (e ≡ 0) ⊎ (10 ^ n * 10 ^ e ≤ x)

-- of higher powers no multiple rounds to x
pub record Reached (x n : ℕ) : Type 0 where
  pub so_far : (e : ℕ) → Leaves x n e → shortest_of x ≡ shortest_from e x

lower : (n e : ℕ) → 10 ^ suc n * 10 ^ e ≡ 10 ^ n * 10 ^ suc e
lower n e = ap (λ p. p * 10 ^ e) (pow-suc 10 n) ∙ mul_assoc (10 ^ n) 10 (10 ^ e) ∙ ap (λ p. 10 ^ n * p) (mul_comm 10 (10 ^ e) ∙ sym (pow-suc 10 e))

no_less : (x n a b : ℕ) → Leaves x n a → Leaves x n b → a < b → ⊥
no_less x n a b s t less = by t.full
  where
    by : (b ≡ 0) ⊎ (10 ^ n * 10 ^ b ≤ x) → ⊥
    by (inl none) = omega (arith, none, less)
    by (inr high) =
        let up : 10 ^ suc a ≤ 10 ^ b = pow-le-pow_right {n = 10} (omega arith) {i = suc a} {j = b} less in
        let wide : 10 ^ n * 10 ^ suc a ≤ 10 ^ n * 10 ^ b = mul-le-mul_left (10 ^ n) up in
        let fits = s.fits in
        let same = lower n a in
        omega (arith, fits, same, wide, high)

same_power : (x n a b : ℕ) → Leaves x n a → Leaves x n b → a ≡ b
same_power x n a b s t = by (cases_lt a b) (cases_lt b a)
  where
    by : (a < b) ⊎ (b ≤ a) → (b < a) ⊎ (a ≤ b) → a ≡ b
    by (inl less) more = absurd (no_less x n a b s t less)
    by (inr most) (inl less) = absurd (no_less x n b a t s less)
    by (inr most) (inr least) = omega (arith, most, least)

pub reached_first : (x : ℕ) → 0 < x → x < 10 ^ 20 → Reached x 0
unfolding shortest_of
reached_first x some limit = record { so_far = λ e leaves. by e leaves (cases_lt e 20) }
  where
    by : (e : ℕ) → Leaves x 0 e → (e < 20) ⊎ (20 ≤ e) → shortest_of x ≡ shortest_from e x
    by e leaves (inl few) = let fits = leaves.fits in passes 19 e x (omega (arith, few)) (omega arith) some (omega (arith, fits))
    by e leaves (inr many) = absurd (high leaves.full)
      where
        high : (e ≡ 0) ⊎ (10 ^ 0 * 10 ^ e ≤ x) → ⊥
        high (inl none) = omega (arith, none, many)
        high (inr more) = let up : 10 ^ 20 ≤ 10 ^ e = pow-le-pow_right {n = 10} (omega arith) {i = 20} {j = e} many in omega (arith, more, up, limit)

no_ten : (e : ℕ) → 10 ^ e ≡ 1 → e ≡ 0
no_ten zero is = refl
no_ten (suc e) is = let next : 10 ^ suc e ≡ 10 ^ e * 10 = pow-suc 10 e in absurd (omega (arith, is, next))

leaves_of : (x n step : ℕ) (t : Tens x n step) → Leaves x n t.e
leaves_of x n step t = record { fits = subst (λ p. x < 10 ^ suc n * p) t.is t.fits; full = by t.full }
  where
    by : (step ≡ 1) ⊎ (10 ^ n * step ≤ x) → (t.e ≡ 0) ⊎ (10 ^ n * 10 ^ t.e ≤ x)
    by (inl one) = inl (no_ten t.e (sym t.is ∙ one))
    by (inr high) = inr (subst (λ p. 10 ^ n * p ≤ x) t.is high)

pub reached_next : (x n step : ℕ) → x < 10 ^ 20 → Short x → Reached x n → Tens x n step → multiple_at step x ≡ None → Reached x (suc n)
unfolding shortest_from
reached_next x n step limit short reached t none = by t.e refl
  where
    by : (e : ℕ) → t.e ≡ e → Reached x (suc n)
    by zero is =
        let own = own_multiple x (omega (arith, limit)) short (rounds_to (x / 1 * 1 + 1) x) refl in
        let one : step ≡ 1 = t.is ∙ ap (λ j. 10 ^ j) is in
        let nothing : ◌≡◌ {A = Option ℕ} (Some x) None = sym own ∙ ap (λ s. multiple_at s x) (sym one) ∙ none in
        absurd (cc)
    by (suc e) is = record { so_far = λ f leaves. so_far f leaves }
      where
        here : Leaves x n (suc e)
        here = subst (Leaves x n) is (leaves_of x n step t)

        next : Leaves x (suc n) e
        next = record { fits = (let fits = here.fits in let same = lower (suc n) e in omega (arith, fits, same)); full = full here.full }
          where
            full : (suc e ≡ 0) ⊎ (10 ^ n * 10 ^ suc e ≤ x) → (e ≡ 0) ⊎ (10 ^ suc n * 10 ^ e ≤ x)
            full (inl zero_) = absurd (omega (arith, zero_))
            full (inr high) = let same = lower n e in inr (omega (arith, same, high))

        missed : multiple_at (10 ^ suc e) x ≡ None
        missed = ap (λ s. multiple_at s x) (sym (t.is ∙ ap (λ j. 10 ^ j) is)) ∙ none

        so_far : (f : ℕ) → Leaves x (suc n) f → shortest_of x ≡ shortest_from f x
        so_far f leaves =
            reached.so_far (suc e) here ∙ ap (λ o. unwrap_or o (shortest_from e x)) missed ∙ ap (λ j. shortest_from j x) (same_power x (suc n) e f next leaves)

pub reached_end : (x n step w : ℕ) → x < 10 ^ 20 → Short x → Reached x n → Tens x n step → multiple_at step x ≡ Some w → w ≡ shortest_of x
reached_end x n step w limit short reached t some =
    let found : multiple_at (10 ^ t.e) x ≡ Some w = ap (λ s. multiple_at s x) (sym t.is) ∙ some in
    sym (reached.so_far t.e (leaves_of x n step t) ∙ taken_here t.e x w (omega (arith, limit)) short found)
