-- What a node of a graph reaches. A graph has for each node the list of its successors.
use Rattle.std.specs.Prelude.{◌≡◌, ◌↔◌, ℕ, ◌<◌, List, [], length, slice_get, slice_index_or, Contains, Bool, true, Some}

-- the nodes that follow the node
abbrev pub successors_of : List (List ℕ) → ℕ → List ℕ
successors_of graph x = slice_index_or graph x []

-- y is among the successors of x
abbrev pub Step : List (List ℕ) → ℕ → ℕ → Type 0
Step graph x y = Contains (successors_of graph x) y

-- one step or more lead from x to y
pub data Reaches (graph : List (List ℕ)) : ℕ → ℕ → Type 0 where
  one : {x y : ℕ} → Step graph x y → Reaches graph x y
  more : {x y z : ℕ} → Step graph x y → Reaches graph y z → Reaches graph x z

-- one step or more lead from the node back to it
abbrev pub ReachesItself : List (List ℕ) → ℕ → Type 0
ReachesItself graph x = Reaches graph x x

-- each successor is below the count
pub record AreBelow (graph : List (List ℕ)) (count : ℕ) : Type 0 where
  pub below : (x y : ℕ) → Step graph x y → y < count

-- each successor is a node
abbrev pub AreNodes : List (List ℕ) → Type 0
AreNodes graph = AreBelow graph (length graph)

-- a flag for each node, which is set exactly where the node reaches itself
pub record TellsCyclic (graph : List (List ℕ)) (flags : List Bool) : Type 0 where
  pub size : length flags ≡ length graph
  pub tells : (x : ℕ) → (slice_get flags x ≡ Some true) ↔ ReachesItself graph x

-- no node reaches itself
abbrev pub IsAcyclic : List (List ℕ) → Type 0
IsAcyclic graph = (x : ℕ) → ReachesItself graph x → ⊥

-- where each node is followed by its parent, at most one each: each parent is a node, and no node comes from itself
pub record IsForest (parents : List (List ℕ)) : Type 0 where
  pub listed : AreNodes parents
  pub acyclic : IsAcyclic parents
