-- What a walk over a graph finds.
use Rattle.std.specs.Prelude.{ℕ, List, length}
use Rattle.widl_graph.specs.declared.walk.Walk.{Walk}
use Rattle.widl_graph.specs.Order.{IsOrder, StandsBefore}
use Rattle.widl_graph.specs.Reaching.{ReachesItself, Step, TellsCyclic}

-- which nodes reach themselves, and an order in which the successors of the others stand before them
pub record IsWalkOver (graph : List (List ℕ)) (walk : Walk) : Type 0 where
  pub cyclic : TellsCyclic graph walk.cyclic.items
  pub order : IsOrder (length graph) walk.order.items
  pub before : (x y : ℕ) → (ReachesItself graph x → ⊥) → Step graph x y → StandsBefore walk.order.items y x
