-- What is computed lies nearest.
use Rattle.std.proofs.Common.{◌≡◌, ℕ, suc, zero, ◌+◌, ◌-◌, ◌*◌, ◌/◌, ◌%◌, ◌^◌, ◌<◌, ◌≤◌, ◌⊎◌, inl, inr, Bool, true, false, ℤ, pos, negsuc, refl, sym, ap, ◌∙◌, arith}
use Rattle.std.specs.Prelude.{if◌then◌else◌, neg_ℤ, unsigned_abs, ◌≤ℤ◌}
use Rattle.std.specs.Int.Count.{count_leading_zeros}
use Rattle.std.proofs.lemmas.Nat.{div-add-mod', leading_top, mod_below, pow-add}
use Rattle.std.proofs.Math.Pow.{pow_mono}
use Rattle.std.proofs.lemmas.Bool.{cases_lt}
use Rattle.std.proofs.lemmas.Bool.Decides.{nat_tests}
use Rattle.std.proofs.lemmas.Int.{ints}
use Rattle.widl_value.specs.declared.number.Number.{Number}
use Rattle.widl_value.specs.declared.number.Number.TheVariants.{NaN, PosInf, NegInf, Whole}
use Rattle.widl_value.specs.Near.{IsNumber, Near, Nearest}
use Rattle.widl_value.specs.Rounding.{goes_up, near_of, nearest_of, step_of}
use Rattle.widl_value.specs.Steps.{Steps, IsUp, IsDown}
use Rattle.widl_value.proofs.NearSigned.{nearest_above, nearest_below, size_most}
use Rattle.widl_value.proofs.NearUnique.{near_unique}
use Rattle.widl_value.proofs.ShortNumbers.{near_up, near_down, step_positive}

-- the step that is computed is the one around v
step_by : (v zeros j : ℕ) → zeros + suc j ≡ 128 → 2 ^ j ≤ v → v < 2 ^ suc j → Steps v (2 ^ (128 - 53 - zeros))
step_by v zeros j count least most = record {
  e = 128 - 53 - zeros;
  is = refl;
  fits = (let up : 2 ^ suc j ≤ 2 ^ (53 + (128 - 53 - zeros)) = pow_mono (omega (arith, count)) in let parts = pow-add 2 53 (128 - 53 - zeros) in omega (arith, up, parts, most));
  full = by (cases_lt 52 j);
}
  where
    by : (52 < j) ⊎ (j ≤ 52) → (2 ^ (128 - 53 - zeros) ≡ 1) ⊎ (2 ^ 52 * 2 ^ (128 - 53 - zeros) ≤ v)
    by (inl more) =
        let sum : 52 + (128 - 53 - zeros) ≡ j = omega (arith, count, more) in
        let parts = pow-add 2 52 (128 - 53 - zeros) in
        let power : 2 ^ (52 + (128 - 53 - zeros)) ≡ 2 ^ j = ap (λ k. 2 ^ k) sum in
        inr (omega (arith, parts, power, least))
    by (inr few) = let none : 128 - 53 - zeros ≡ 0 = omega (arith, count, few) in inl (ap (λ k. 2 ^ k) none)

steps_here : (v : ℕ) → v < 2 ^ 128 → Steps v (step_of v)
unfolding step_of count_leading_zeros
steps_here zero room = record { e = 0; is = refl; fits = omega arith; full = inl refl }
steps_here (suc v) room = let top = leading_top 128 (suc v) (omega arith) room in step_by (suc v) (count_leading_zeros 128 (suc v)) top.0 top.1 top.2 top.3

up_means : (whole rest step : ℕ) → goes_up whole rest step ≡ true → IsUp whole rest step
up_means whole rest step is = record { near = grind (arith, nat_tests); tie = λ half. grind (arith, nat_tests) }

down_means : (whole rest step : ℕ) → goes_up whole rest step ≡ false → IsDown whole rest step
down_means whole rest step is = record { near = grind (arith, nat_tests); tie = λ half. grind (arith, nat_tests) }

near_by : (v step : ℕ) → Steps v step → (b : Bool) → goes_up (v / step) (v % step) step ≡ b → Near v (if b then v / step * step + step else v / step * step)
near_by v step s true is = near_up _ _ _ _ s (sym (div-add-mod' _ _)) (mod_below _ _ (step_positive _ _ s)) (up_means _ _ _ is)
near_by v step s false is = near_down _ _ _ _ s (sym (div-add-mod' _ _)) (mod_below _ _ (step_positive _ _ s)) (down_means _ _ _ is)

pub near_of_near : (v : ℕ) → v < 2 ^ 128 → Near v (near_of v)
unfolding near_of
near_of_near v room = near_by v (step_of v) (steps_here v room) (goes_up (v / step_of v) (v % step_of v) (step_of v)) refl

-- the Number nearest to v is the one that is computed
pub nearest_word : (v : ℤ) (n : Number) → unsigned_abs v < 2 ^ 128 → Nearest v n → n ≡ nearest_of v
nearest_word (pos v) (Whole x) room near = ap Whole (near.0.1 ∙ ap pos (near_unique v _ _ near.0.2 (near_of_near v room)))
nearest_word (negsuc v) (Whole x) room near = ap Whole (near.0.1 ∙ ap (λ n. neg_ℤ (pos n)) (near_unique (suc v) _ _ near.0.2 (near_of_near (suc v) room)))
nearest_word v NaN room near = absurd near
nearest_word v PosInf room near = absurd near
nearest_word v NegInf room near = absurd near

room_of : (n : ℕ) → n ≤ 2 ^ 64 → n < 2 ^ 128
room_of n most = omega (arith, most)

pub nearest_of_nearest : (v : ℤ) → neg_ℤ (pos (2 ^ 64)) ≤ℤ v → v ≤ℤ pos (2 ^ 64) → Nearest v (nearest_of v)
nearest_of_nearest (pos v) low high = let most = size_most (pos v) low high in nearest_above (pos v) (pos (near_of v)) v (near_of v) (omega (arith, ints)) refl most (near_of_near v (room_of v most)) refl
nearest_of_nearest (negsuc v) low high = let most = size_most (negsuc v) low high in nearest_below (negsuc v) (neg_ℤ (pos (near_of (suc v)))) (suc v) (near_of (suc v)) (omega (arith, ints)) refl most (near_of_near (suc v) (room_of (suc v) most)) refl

pub nearest_of_number : (v : ℤ) → neg_ℤ (pos (2 ^ 64)) ≤ℤ v → v ≤ℤ pos (2 ^ 64) → IsNumber (nearest_of v)
nearest_of_number (pos v) low high = (nearest_of_nearest (pos v) low high).1
nearest_of_number (negsuc v) low high = (nearest_of_nearest (negsuc v) low high).1
