-- What a text spells with U+FFFD in place of lone surrogates is scalar values.
use Rattle.std.proofs.Common.{◌≡◌, ℕ, suc, ◌<◌, ◌≤◌, Bool, true, false, cond, ◌&&◌, List, [], ◌∷◌, map, get_or, Some, refl, arith}
use Rattle.std.specs.Option.{unwrap_or}
use Rattle.std.specs.Char.Utf16.{is_high_surrogate, is_low_surrogate, lone_unit_char, surrogate_pair_char, utf16_chars, utf16_lossy_chars}
use Rattle.std.proofs.lemmas.Bool.{and_from, and_parts, ltb-true}
use Rattle.std.proofs.lemmas.Bool.Decides.{nat_tests}
use lib.Utf8.{scalar, scalars}

-- each unit is below 2 to the 16
abbrev pub AreUnits : List ℕ → Type 0
AreUnits units = (i : ℕ) → get_or units i 0 < 65536

lone_scalar : (u : ℕ) → u < 65536 → scalar (unwrap_or (lone_unit_char u) 0xFFFD) ≡ true
lone_scalar u small = grind (arith, nat_tests)

between_scalar : (c : ℕ) → 65536 ≤ c → c < 1114112 → scalar c ≡ true
between_scalar c low high = grind (arith, nat_tests)

pair_scalar : (u v : ℕ) → (is_high_surrogate u && is_low_surrogate v) ≡ true → scalar (surrogate_pair_char u v) ≡ true
pair_scalar u v pair =
    let parts = and_parts _ _ pair in
    let high = and_parts _ _ parts.0 in
    let low = and_parts _ _ parts.1 in
    let most = ltb-true u 0xDC00 high.1 in
    let end = ltb-true v 0xE000 low.1 in
    let low_end : 65536 ≤ surrogate_pair_char u v = omega arith in
    let high_end : surrogate_pair_char u v < 1114112 = omega (arith, most, end) in
    between_scalar (surrogate_pair_char u v) low_end high_end

pub lossy_scalars : (units : List ℕ) → AreUnits units → scalars (utf16_lossy_chars units) ≡ true
unfolding utf16_chars
lossy_scalars [] small = refl
lossy_scalars (u ∷ []) small = and_from _ _ (lone_scalar u (small 0)) refl
lossy_scalars (u ∷ v ∷ us) small = by (is_high_surrogate u && is_low_surrogate v) refl (lossy_scalars us (λ i. small (suc (suc i)))) (lossy_scalars (v ∷ us) (λ i. small (suc i)))
  where
    by : (t : Bool) → (is_high_surrogate u && is_low_surrogate v) ≡ t → scalars (utf16_lossy_chars us) ≡ true → scalars (utf16_lossy_chars (v ∷ us)) ≡ true
        → scalars (map (λ o. unwrap_or o 0xFFFD) (cond t (Some (surrogate_pair_char u v) ∷ utf16_chars us) (lone_unit_char u ∷ utf16_chars (v ∷ us)))) ≡ true
    by true pair rest more = and_from _ _ (pair_scalar u v pair) rest
    by false lone rest more = and_from _ _ (lone_scalar u (small 0)) more
