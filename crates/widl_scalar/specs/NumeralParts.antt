-- How the parts of a numeral are cut.
use Rattle.std.specs.Prelude.{◌≡◌, ◌≢◌, ℕ, ◌<◌, ◌≤◌, ◌⊎◌, Bool, true, false, List, [], ◌∷◌, ◌++◌, length, slice_index, drop}
use Rattle.std.specs.Char.{digit_value}
use Rattle.std.specs.Str.Parse.{AllDigits}

-- no digit stands first
abbrev pub NoDigitFirst : List ℕ → Type 0
NoDigitFirst text = 0 < length text → 10 ≤ digit_value (slice_index text 0)

-- the longest run of digits, and what follows
pub record IsDigitCut (text front back : List ℕ) : Type 0 where
  pub is : text ≡ front ++ back
  pub digits : AllDigits 10 front
  pub ends : NoDigitFirst back

-- the digits after a point, if one stands first, and what follows
pub record IsFractionCut (text fraction tail : List ℕ) : Type 0 where
  pub point : List ℕ
  pub is_point : (point ≡ 46 ∷ []) ⊎ ((point ≡ []) × (fraction ≡ []) × (slice_index text 0 ≢ 46))
  pub is : text ≡ point ++ (fraction ++ tail)
  pub digits : AllDigits 10 fraction
  pub ends : NoDigitFirst tail

-- the sign, if one stands first, and what follows
pub record IsSignCut (text : List ℕ) (negative : Bool) (rest : List ℕ) : Type 0 where
  pub minus : slice_index text 0 ≡ 45 → (negative ≡ true) × (rest ≡ drop 1 text)
  pub plus : slice_index text 0 ≡ 43 → (negative ≡ false) × (rest ≡ drop 1 text)
  pub none : slice_index text 0 ≢ 45 → slice_index text 0 ≢ 43 → (negative ≡ false) × (rest ≡ text)
