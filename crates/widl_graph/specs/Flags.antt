-- For proofs alone. Flags of the nodes of a graph, and whether a node reaches one whose flag is set.
use Rattle.std.specs.Prelude.{◌≡◌, ◌↔◌, ℕ, Bool, true, false, ◌||◌, List, slice_index_or}
use Rattle.widl_graph.specs.Reaching.{Reaches}

-- one step or more lead from the node to one whose flag is set
pub record ReachesFlag (graph : List (List ℕ)) (flags : List Bool) (x : ℕ) : Type 0 where
  pub node : ℕ
  pub reaches : Reaches graph x node
  pub flagged : slice_index_or flags node false ≡ true

-- the flags tell of each node whether it reaches one whose flag is set
pub record TellsReached (graph : List (List ℕ)) (flags found : List Bool) : Type 0 where
  pub tells : (x : ℕ) → (slice_index_or found x false ≡ true) ↔ ReachesFlag graph flags x

-- whether a node has its flag set, or reaches one that has
abbrev pub reaches_by : List Bool → List Bool → ℕ → Bool
reaches_by flags found x = slice_index_or flags x false || slice_index_or found x false
