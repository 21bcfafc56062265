-- How the shortest text is found.
use Rattle.std.specs.Prelude.{◌≡◌, ℕ, suc, ◌*◌, ◌^◌, ◌<◌, ◌≤◌, ◌⊎◌}
use Rattle.widl_value.specs.Near.{Near}
use Rattle.widl_scalar.specs.ShortestDigits.{Digits}

-- the step between the numbers of n + 1 digits around x
pub record Tens (x n step : ℕ) : Type 0 where
  pub e : ℕ
  pub is : step ≡ 10 ^ e
  pub fits : x < 10 ^ suc n * step
  pub full : (step ≡ 1) ⊎ (10 ^ n * step ≤ x)

-- no number of at most n digits rounds to x
abbrev pub NoneOf : ℕ → ℕ → Type 0
NoneOf x n = (k u : ℕ) → k ≤ n → Digits k u → Near u x → ⊥
