-- The whole Numbers, and which of them lies nearest to a whole number.
-- Source: ECMA-262, The Number Type ("the Number value for x"): 53 significant bits, ties to the even significand.
use Rattle.std.specs.Prelude.{◌≡◌, ◌≢◌, ℕ, suc, ◌+◌, ◌*◌, ◌-◌, ◌^◌, ◌<◌, ◌≤◌, ℤ, pos, negsuc, neg_ℤ, unsigned_abs}
use Rattle.widl_value.specs.declared.number.Number.{Number}
use Rattle.widl_value.specs.declared.number.Number.TheVariants.{NaN, PosInf, NegInf, Whole}

-- n is m times 2 to the e, for an m below 2 to the 53
pub record Short (n : ℕ) : Type 0 where
  pub m : ℕ
  pub e : ℕ
  pub small : m < 2 ^ 53
  pub is : n ≡ m * 2 ^ e

-- how far two numbers lie apart
abbrev pub apart : ℕ → ℕ → ℕ
apart a b = (a - b) + (b - a)

-- the two differ by a power of two, and n is a multiple of the next one
pub record Even (n k : ℕ) : Type 0 where
  pub e : ℕ
  pub differ : apart n k ≡ 2 ^ e
  pub times : ℕ
  pub multiple : n ≡ times * 2 ^ (e + 1)

-- n is the short number nearest to v, on a tie the even one
pub record Near (v n : ℕ) : Type 0 where
  pub short : Short n
  pub least : (k : ℕ) → Short k → apart v n ≤ apart v k
  pub even : (k : ℕ) → Short k → n ≢ k → apart v n ≡ apart v k → Even n k

-- the same on both sides of 0
abbrev pub NearInt : ℤ → ℤ → Type 0
NearInt (pos v) x = (n : ℕ) × (x ≡ pos n) × Near v n
NearInt (negsuc v) x = (n : ℕ) × (x ≡ neg_ℤ (pos n)) × Near (suc v) n

-- a whole number that is a Number: short, and of magnitude at most 2 to the 64
pub record IsWholeNumber (x : ℤ) : Type 0 where
  pub short : Short (unsigned_abs x)
  pub most : unsigned_abs x ≤ 2 ^ 64

abbrev pub IsNumber : Number → Type 0
IsNumber (Whole x) = IsWholeNumber x
IsNumber NaN = Unit {0}
IsNumber PosInf = Unit {0}
IsNumber NegInf = Unit {0}

-- the Number nearest to v
abbrev pub Nearest : ℤ → Number → Type 0
Nearest v (Whole x) = NearInt v x × IsWholeNumber x
Nearest v NaN = ⊥
Nearest v PosInf = ⊥
Nearest v NegInf = ⊥
