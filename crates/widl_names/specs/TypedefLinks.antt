-- For proofs alone. Graphs of the typedefs that the types of typedefs name.
use Rattle.std.specs.Prelude.{◌≡◌, ℕ, List, length}
use Rattle.widl_graph.specs.Reaching.{AreBelow}

-- so many nodes, whose successors are below the count
pub record HasNodes (graph : List (List ℕ)) (count nodes : ℕ) : Type 0 where
  pub below : AreBelow graph count
  pub size : length graph ≡ nodes
