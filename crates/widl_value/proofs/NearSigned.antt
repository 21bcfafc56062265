-- The nearest Number on both sides of 0.
use Rattle.std.proofs.Common.{◌≡◌, ℕ, suc, zero, ◌^◌, ◌≤◌, ℤ, pos, negsuc, refl, sym, ap, subst, ◌∙◌, arith, lit<}
use Rattle.std.specs.Prelude.{neg_ℤ, unsigned_abs, ◌<ℤ◌, ◌≤ℤ◌}
use Rattle.std.proofs.lemmas.Int.{ints}
use Rattle.widl_value.specs.Near.{Short, Near, NearInt, IsWholeNumber}
use Rattle.widl_value.proofs.NearUnique.{near_unique}

top_short : Short (2 ^ 64)
top_short = record { m = 1; e = 64; small = lit< tt; is = refl }

-- what lies nearest to a number up to 2 to the 64 lies there too
pub near_most : (v n : ℕ) → Near v n → v ≤ 2 ^ 64 → n ≤ 2 ^ 64
near_most v n near low = let least = near.least (2 ^ 64) top_short in omega (arith, least, low)

size_of_neg : (n : ℕ) → unsigned_abs (neg_ℤ (pos n)) ≡ n
size_of_neg zero = refl
size_of_neg (suc n) = refl

whole_below : (v n : ℕ) (x : ℤ) → x ≡ neg_ℤ (pos n) → Near v n → v ≤ 2 ^ 64 → IsWholeNumber x
whole_below v n x is near low =
    let size : unsigned_abs x ≡ n = ap unsigned_abs is ∙ size_of_neg n in
    record { short = subst Short (sym size) near.short; most = let most = near_most v n near low in omega (arith, size, most) }

pub size_most : (v : ℤ) → neg_ℤ (pos (2 ^ 64)) ≤ℤ v → v ≤ℤ pos (2 ^ 64) → unsigned_abs v ≤ 2 ^ 64
size_most (pos v) low high = omega (arith, ints, high)
size_most (negsuc v) low high = omega (arith, ints, low)

pub nearest_above : (v x : ℤ) (m n : ℕ) → pos 0 ≤ℤ v → m ≡ unsigned_abs v → m ≤ 2 ^ 64 → Near m n → x ≡ pos n → NearInt v x × IsWholeNumber x
nearest_above (pos v) x m n above same low near is = ((n, is, subst (λ k. Near k n) same near), rw is (record { short = near.short; most = near_most m n near low }))
nearest_above (negsuc v) x m n above same low near is = absurd (omega (arith, ints, above))

pub nearest_below : (v x : ℤ) (m n : ℕ) → v <ℤ pos 0 → m ≡ unsigned_abs v → m ≤ 2 ^ 64 → Near m n → x ≡ neg_ℤ (pos n) → NearInt v x × IsWholeNumber x
nearest_below (pos v) x m n below same low near is = absurd (omega (arith, ints, below))
nearest_below (negsuc v) x m n below same low near is = ((n, is, subst (λ k. Near k n) same near), whole_below m n x is near low)

-- one number lies nearest
pub near_int_unique : (v a b : ℤ) → NearInt v a → NearInt v b → a ≡ b
near_int_unique (pos v) a b x y = x.1 ∙ ap pos (near_unique v x.0 y.0 x.2 y.2) ∙ sym y.1
near_int_unique (negsuc v) a b x y = x.1 ∙ ap (λ n. neg_ℤ (pos n)) (near_unique (suc v) x.0 y.0 x.2 y.2) ∙ sym y.1
