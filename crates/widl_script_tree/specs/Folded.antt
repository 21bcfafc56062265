-- The trees of a table of nodes, one for each node: a node is opened over the trees of the nodes before it.
use Rattle.std.specs.Prelude.{ℕ, List, [], ◌∷◌, ◌++◌, slice_index_or}

module _ {N T : Type 0} (opens : (ℕ → T) → N → T) (no : T) where
  abbrev pub trees_from : List T → List N → List T
  trees_from done [] = done
  trees_from done (n ∷ nodes) = trees_from (done ++ opens (λ place. slice_index_or done place no) n ∷ []) nodes

  -- the tree at a place of the table
  abbrev pub tree_in : List N → ℕ → T
  tree_in nodes place = slice_index_or (trees_from [] nodes) place no
