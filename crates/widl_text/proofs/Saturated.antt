-- Digits of a number that stops at the greatest one.
use Rattle.std.proofs.Common.{◌≡◌, inl, inr, ℕ, ◌+◌, ◌-◌, ◌*◌, ◌^◌, ◌<◌, ◌≤◌, List, length, take, get_or, min, arith, sym, ap, ◌∙◌}
use Rattle.std.proofs.Math.Nat.{mul-le-mul_left}
use Rattle.std.proofs.lemmas.Bool.{cases_lt}
use Rattle.std.proofs.lemmas.Int.Digits.{digits_value_more}
use Rattle.std.specs.Char.{digit_value}
use Rattle.std.specs.Str.Parse.{digits_value}
use Rattle.widl_text.specs.IntegerTokens.{saturated}

-- a step of a number that stops at the greatest one is that of the number itself
capped_step : (greatest radix number digit : ℕ) → 1 ≤ radix → min (min (min number greatest * radix) greatest + digit) greatest ≡ min (number * radix + digit) greatest
capped_step greatest radix number digit some = elim (cases_lt greatest number) [
  | inl past ↦
      let stopped : min number greatest ≡ greatest = omega arith in
      let grown : greatest * 1 ≤ greatest * radix = mul-le-mul_left greatest some in
      let more : number * 1 ≤ number * radix = mul-le-mul_left number some in
      ap (λ n. min (min (n * radix) greatest + digit) greatest) stopped ∙ omega arith
  | inr within ↦
      let kept : min number greatest ≡ number = omega arith in
      ap (λ n. min (min (n * radix) greatest + digit) greatest) kept ∙ omega arith
]

-- the number that the digits write, with one digit more
pub saturated_more : (radix i next product sum : ℕ) (digits : List ℕ) → 1 ≤ radix → i < length digits → product ≡ saturated (saturated (digits_value radix (take i digits)) * radix) → next ≡ digit_value (get_or digits i 0) → sum ≡ saturated (product + next)
    → sum ≡ saturated (digits_value radix (take (i + 1) digits))
saturated_more radix i next product sum digits some below multiplied is added =
    let greatest = 2 ^ 128 - 1 in
    added
    ∙ ap (λ p. saturated (p + next)) multiplied
    ∙ ap (λ d. saturated (saturated (saturated (digits_value radix (take i digits)) * radix) + d)) is
    ∙ capped_step greatest radix (digits_value radix (take i digits)) (digit_value (get_or digits i 0)) some
    ∙ ap saturated (sym (digits_value_more radix digits i below))
