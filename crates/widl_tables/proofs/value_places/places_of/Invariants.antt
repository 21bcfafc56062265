use Rattle.std.proofs.Common.{◌≡◌, ℕ, List, bytes_eq, take}
use Rattle.std.specs.Map.{lookup}
use Rattle.widl_scalar.specs.Enumerations.{place_of_text}
use Rattle.widl_tables.proofs.value_places.places_of.Given as goal

abbrev pub invariant-loop-place : goal.invariant-loop-place
invariant-loop-place l = (text : List ℕ) → lookup (bytes_eq text) l.places ≡ place_of_text (take l.place l.values) text
