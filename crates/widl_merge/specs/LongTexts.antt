-- For proofs alone. The long texts that are kept with their units.
use Rattle.std.specs.Prelude.{◌≡◌, ℕ, List, Option, Some, bytes_eq}
use Rattle.std.specs.Borrow.{Bor}
use Rattle.indexmap.specs.IndexMap.{IndexMap, get_by}
use Rattle.widl_idl.specs.WrittenLiterals.{units_of}

-- what is kept for a text
abbrev pub kept_for : {S : Type 0} → IndexMap (Bor (List ℕ)) (List ℕ) S → List ℕ → Option (List ℕ)
kept_for kept text = get_by (λ k. bytes_eq text k.now) kept

-- what is kept for a text are its units
abbrev pub KeepsUnits : {S : Type 0} → IndexMap (Bor (List ℕ)) (List ℕ) S → Type 0
KeepsUnits kept = (text units : List ℕ) → kept_for kept text ≡ Some units → units ≡ units_of text
