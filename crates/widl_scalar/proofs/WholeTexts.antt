-- The texts of whole Numbers.
use Rattle.std.proofs.Common.{◌≡◌, ℕ, suc, zero, ◌^◌, ◌<◌, ◌≤◌, ◌⊎◌, inl, inr, ℤ, pos, negsuc, refl, subst, ap, sym, ◌∙◌, arith, lit<}
use Rattle.std.specs.Prelude.{neg_ℤ, unsigned_abs, ◌<ℤ◌}
use Rattle.std.specs.Fmt.{decimal, signed_decimal}
use Rattle.std.proofs.lemmas.Bool.{cases_lt}
use Rattle.std.proofs.lemmas.Fmt.{decimal_digit}
use Rattle.std.proofs.lemmas.Int.{ints}
use Rattle.widl_value.specs.Near.{Short, Near}
use Rattle.widl_value.proofs.NearUnique.{near_self, near_unique}
use Rattle.widl_scalar.specs.ShortestDigits.{Shortest, shortest_of}
use Rattle.widl_scalar.specs.NumberTexts.{IsSizeText, IsWholeText, shortest_signed}

-- what rounds to a number up to 2 to the 64 lies below the next power but one
pub shortest_room : (x w : ℕ) → Shortest x w → x ≤ 2 ^ 64 → w < 2 ^ 65
shortest_room x w s most = by (cases_lt w (2 ^ 65))
  where
    high : Short (2 ^ 65)
    high = record { m = 1; e = 65; small = lit< tt; is = refl }

    by : (w < 2 ^ 65) ⊎ (2 ^ 65 ≤ w) → w < 2 ^ 65
    by (inl less) = less
    by (inr more) = let near = s.rounds in let least = near.least (2 ^ 65) high in absurd (omega (arith, least, more, most))

-- and isn't 0
pub shortest_some : (x w : ℕ) → Shortest x w → 0 < x → 0 < w
shortest_some x zero s some =
    let none : Near 0 0 = near_self 0 (record { m = 0; e = 0; small = lit< tt; is = refl }) in
    let same : x ≡ 0 = near_unique 0 x 0 s.rounds none in
    omega (arith, same, some)
shortest_some x (suc w) s some = omega arith

size_text : (x w : ℕ) → Shortest x w → IsSizeText x (decimal w)
size_text x w s = record { filled = w; shortest = s; is = refl }

pub text_of_zero : (v : ℤ) → v ≡ pos 0 → IsWholeText v (decimal 0)
text_of_zero v is = rw is (decimal_digit 0 (omega arith))

pub text_above : (v r : ℤ) (m w : ℕ) → pos 0 <ℤ v → m ≡ unsigned_abs v → Shortest m w → r ≡ pos w → IsWholeText v (signed_decimal r)
text_above (pos zero) r m w above same s is = absurd (omega (arith, ints, above))
text_above (pos (suc n)) r m w above same s is = rw is (size_text (suc n) w (subst (λ k. Shortest k w) same s))
text_above (negsuc n) r m w above same s is = absurd (omega (arith, ints, above))

minus : (n w : ℕ) → Shortest (suc n) w → IsWholeText (negsuc n) (signed_decimal (neg_ℤ (pos w)))
minus n zero s = absurd (let some = shortest_some (suc n) zero s (omega arith) in omega (arith, some))
minus n (suc w) s = record { digits = decimal (suc w); are_digits = size_text (suc n) (suc w) s; is = refl }

pub text_below : (v r : ℤ) (m w : ℕ) → v <ℤ pos 0 → m ≡ unsigned_abs v → Shortest m w → r ≡ neg_ℤ (pos w) → IsWholeText v (signed_decimal r)
text_below (pos n) r m w below same s is = absurd (omega (arith, ints, below))
text_below (negsuc n) r m w below same s is = rw is (minus n w (subst (λ k. Shortest k w) same s))

-- and what is computed is the same
pub word_of_zero : (v : ℤ) → v ≡ pos 0 → pos 0 ≡ shortest_signed v
word_of_zero v is = ap shortest_signed (sym is)

pub word_above : (v r : ℤ) (m w : ℕ) → pos 0 <ℤ v → m ≡ unsigned_abs v → w ≡ shortest_of m → r ≡ pos w → r ≡ shortest_signed v
word_above (pos zero) r m w above same s is = absurd (omega (arith, ints, above))
word_above (pos (suc n)) r m w above same s is = is ∙ ap pos (s ∙ ap shortest_of same)
word_above (negsuc n) r m w above same s is = absurd (omega (arith, ints, above))

pub word_below : (v r : ℤ) (m w : ℕ) → v <ℤ pos 0 → m ≡ unsigned_abs v → w ≡ shortest_of m → r ≡ neg_ℤ (pos w) → r ≡ shortest_signed v
word_below (pos n) r m w below same s is = absurd (omega (arith, ints, below))
word_below (negsuc n) r m w below same s is = is ∙ ap (λ n. neg_ℤ (pos n)) (s ∙ ap shortest_of same)
