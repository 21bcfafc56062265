-- Orders of the nodes of a graph.
use Rattle.std.specs.Prelude.{◌≡◌, ℕ, ◌<◌, List, length, slice_get, Some}

-- each number below the count stands in the list exactly once, and nothing else does
pub record IsOrder (count : ℕ) (order : List ℕ) : Type 0 where
  pub size : length order ≡ count
  pub nodes : (place x : ℕ) → slice_get order place ≡ Some x → x < count
  pub each : (x : ℕ) → x < count → (place : ℕ) × (slice_get order place ≡ Some x)
  pub once : (i j x : ℕ) → slice_get order i ≡ Some x → slice_get order j ≡ Some x → i ≡ j

-- y stands before x
pub record StandsBefore (order : List ℕ) (y x : ℕ) : Type 0 where
  pub earlier : ℕ
  pub later : ℕ
  pub first : slice_get order earlier ≡ Some y
  pub second : slice_get order later ≡ Some x
  pub before : earlier < later
