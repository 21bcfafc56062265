-- The exact value of digits and a power of ten, and how it is found.
use Rattle.std.specs.Prelude.{◌≡◌, ℕ, ◌+◌, ◌*◌, ◌%◌, ◌^◌, ◌<◌, ◌≤◌, ◌⊎◌, min, Bool, true, false, Option, None, Some}
use Rattle.widl_scalar.specs.declared.decimal_scale.Exponent.{Exponent}

-- v is n times 10 to `up` over 10 to `down`
abbrev pub IsScaled : ℕ → ℕ → ℕ → ℕ → Type 0
IsScaled n up down v = v * 10 ^ down ≡ n * 10 ^ up

-- a whole value of at most 2 to the 64 is told, and no value comes where there is none
abbrev pub Scales : ℕ → ℕ → ℕ → Option ℕ → Type 0
Scales n up down (Some v) = IsScaled n up down v × (v ≤ 2 ^ 64)
Scales n up down None = (v : ℕ) → IsScaled n up down v → 2 ^ 64 < v

-- n is a number without zeros at its end, and these zeros; what exceeds 2 to the 64 is kept as one more than that
pub record Stands (n kept zeros : ℕ) : Type 0 where
  pub number : ℕ
  pub value : n ≡ number * 10 ^ zeros
  pub cut : kept ≡ min number (2 ^ 64 + 1)
  pub last : number % 10 ≡ 0 → number ≡ 0

-- the powers of ten to multiply by and to divide by that an exponent means; a great one is kept as 2 to the 100
abbrev pub Means : Bool → ℕ → ℕ → ℕ → Type 0
Means false size up over = (size ≡ min up (2 ^ 100)) × (over ≡ 0)
Means true size up over = (up ≡ 0) × (size ≡ min over (2 ^ 100))

abbrev pub ExponentMeans : Exponent → ℕ → ℕ → Type 0
ExponentMeans e up over = Means e.negative e.size up over

-- tens to multiply by and to divide by, and what they are kept as: the same, or both beyond any Number on one side
abbrev pub Shift : ℕ → ℕ → ℕ → ℕ → Type 0
Shift up down rise fall = ((up ≡ rise) × (down ≡ fall)) ⊎ (((fall + 20 ≤ rise) × (down + 20 ≤ up)) ⊎ ((rise < fall) × (up < down)))
