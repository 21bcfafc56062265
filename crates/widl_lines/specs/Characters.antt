-- For proofs alone. How a first character is split off.
use Rattle.std.specs.Prelude.{◌≡◌, ℕ, ◌<◌, List, ◌∷◌, length, chars}

-- the first of the characters, and what of the bytes follows it
abbrev pub IsCut : List ℕ → List ℕ → ℕ → List ℕ → Type 0
IsCut characters text first rest = (characters ≡ first ∷ chars rest) × (length rest < length text)
