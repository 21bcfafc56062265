-- For proofs alone. The children of the nodes of a forest, and those of them to which a walk over the nodes has yet to come.
use Rattle.std.specs.Prelude.{◌≡◌, ◌⊎◌, ℕ, ◌<◌, List, [], ◌∷◌, ◌++◌, length, slice_set, Option, None, Some}
use Rattle.widl_graph.specs.Reaching.{successors_of}
use Rattle.widl_graph.specs.Search.{Has}
use Rattle.widl_graph.specs.Spans.{parent_in}

-- the lists have, for each node, those of the first so many nodes whose parent it is
pub record AreChildren (parents : List (Option ℕ)) (count : ℕ) (children : List (List ℕ)) : Type 0 where
  pub size : length children ≡ length parents
  pub own : (p n : ℕ) → Has (successors_of children p) n → parent_in parents n ≡ Some p
  pub each : (p n : ℕ) → p < length parents → n < count → parent_in parents n ≡ Some p → Has (successors_of children p) n

-- a node is added to the list of its parent, if there is one
abbrev pub IsAdded : (old new : List (List ℕ)) → ℕ → ℕ → Type 0
IsAdded old new parent number = new ≡ slice_set old parent (successors_of old parent ++ number ∷ [])

-- the list of a node loses its last child, if it has one
abbrev pub IsTaken : (old new : List (List ℕ)) → ℕ → Option ℕ → Type 0
IsTaken old new parent None = (successors_of old parent ≡ []) × (new ≡ old)
IsTaken old new parent (Some child) = (rest : List ℕ) × (successors_of old parent ≡ rest ++ child ∷ []) × (new ≡ slice_set old parent rest)

-- the lists have the children to which a walk has yet to come, where it has visited these nodes and stands on this path: those of nodes that it has left are none
pub record AreLeft (parents : List (Option ℕ)) (order path : List ℕ) (children : List (List ℕ)) : Type 0 where
  pub size : length children ≡ length parents
  pub own : (p n : ℕ) → Has (successors_of children p) n → parent_in parents n ≡ Some p
  pub each : (p n : ℕ) → p < length parents → parent_in parents n ≡ Some p → Has order n ⊎ Has (successors_of children p) n
  pub on_path : (p n : ℕ) → Has (successors_of children p) n → Has order p → Has path p

-- a walk has visited the node: it has come last to it and stands there, unless it had visited it before
abbrev pub IsVisited : (order path new_order new_path : List ℕ) → ℕ → Type 0
IsVisited order path new_order new_path n = (Has order n × (new_order ≡ order) × (new_path ≡ path)) ⊎ ((new_order ≡ order ++ n ∷ []) × (new_path ≡ path ++ n ∷ []))
