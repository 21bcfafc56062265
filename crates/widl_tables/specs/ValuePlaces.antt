-- For proofs alone. The values of enumerations, as the program keeps them.
use Rattle.std.specs.Prelude.{◌≡◌, ℕ, Bool, List, [], ◌∷◌, Option, None, Some, bytes_eq, if◌then◌else◌}
use Rattle.std.specs.Map.{lookup}
use Rattle.widl_idl.specs.declared.enumeration.Choice.{Choice}
use Rattle.widl_scalar.specs.Enumerations.{place_of_text}

-- the place of a text once another place is noted, for the same text or not
abbrev pub noted : Option ℕ → Bool → ℕ → Option ℕ
noted (Some old) same place = Some old
noted None same place = if same then Some place else None

-- texts with their places
abbrev pub Places : Type 0
Places = List (List ℕ × ℕ)

-- each has the values of its enumeration at their first places
abbrev pub Hold : List Places → List Choice → Type 0
Hold [] [] = Unit {0}
Hold (places ∷ all) (choice ∷ choices) = ((text : List ℕ) → lookup (bytes_eq text) places ≡ place_of_text choice.values text) × Hold all choices
Hold all choices = ⊥
