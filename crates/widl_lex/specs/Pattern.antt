-- Regular expressions over bytes, and the texts that they match.
use Rattle.std.specs.Prelude.{◌≡◌, ℕ, ◌≤◌, List, [], ◌∷◌, ◌++◌, map}

pub data Pattern : Type 0 where
  Never Nothing : Pattern
  Range : (low high : ℕ) → Pattern
  Cat Alt : Pattern → Pattern → Pattern
  Star : Pattern → Pattern

-- the pattern matches the whole text
pub data Matches : Pattern → List ℕ → Type 0 where
  nothing : Matches Nothing []
  range : {low high b : ℕ} → low ≤ b → b ≤ high → Matches (Range low high) (b ∷ [])
  cat : {p q : Pattern} {w : List ℕ} (u v : List ℕ) → Matches p u → Matches q v → w ≡ u ++ v → Matches (Cat p q) w
  left : {p q : Pattern} {w : List ℕ} → Matches p w → Matches (Alt p q) w
  right : {p q : Pattern} {w : List ℕ} → Matches q w → Matches (Alt p q) w
  stop : {p : Pattern} → Matches (Star p) []
  more : {p : Pattern} {w : List ℕ} (u v : List ℕ) → Matches p u → Matches (Star p) v → w ≡ u ++ v → Matches (Star p) w

-- the patterns one after the other
abbrev pub in_row : List Pattern → Pattern
in_row [] = Nothing
in_row (p ∷ []) = p
in_row (p ∷ q ∷ others) = Cat p (in_row (q ∷ others))

-- one of the patterns
abbrev pub any_of : List Pattern → Pattern
any_of [] = Never
any_of (p ∷ []) = p
any_of (p ∷ q ∷ others) = Alt p (any_of (q ∷ others))

abbrev pub byte : ℕ → Pattern
byte b = Range b b

-- these bytes, and one of these bytes
abbrev pub word : List ℕ → Pattern
word bytes = in_row (map byte bytes)

abbrev pub one_of : List ℕ → Pattern
one_of bytes = any_of (map byte bytes)

-- once or more, and at most once
abbrev pub plus : Pattern → Pattern
plus p = Cat p (Star p)

abbrev pub optional : Pattern → Pattern
optional p = Alt p Nothing
