-- Chains of parents, where each node has at most one parent and none comes from itself: they are no longer than the nodes are many.
use Rattle.std.proofs.Common.{◌≡◌, ℕ, ◌<◌, ◌≤◌, zero, suc, List, [], ◌∷◌, length, Option, Some, unwrap_or, arith, sym, ap, subst, ◌∙◌, refl}
use Rattle.widl_graph.specs.Reaching.{IsAcyclic, Step}
use Rattle.widl_graph.proofs.Ways.{IsWay, few}

module _ (parent : ℕ → Option ℕ) where
  abbrev pub next : ℕ → ℕ
  next m = unwrap_or (parent m) 0

  -- the node so many parents above
  abbrev pub above : ℕ → ℕ → ℕ
  above zero m = m
  above (suc count) m = above count (next m)

  pub next_is : (m y : ℕ) → parent m ≡ Some y → next m ≡ y
  next_is m y e = ap (λ p. unwrap_or p 0) e

  -- there are so many parents above
  abbrev pub Climbs : ℕ → ℕ → Type 0
  Climbs m count = (i : ℕ) → i < count → parent (above i m) ≡ Some (above (suc i) m)

  pub climbs_more : (m y count : ℕ) → parent m ≡ Some y → Climbs y count → Climbs m (suc count)
  climbs_more m y count e rest zero below = e ∙ ap Some (sym (next_is m y e))
  climbs_more m y count e rest (suc i) below = subst (λ x. parent (above i x) ≡ Some (above (suc i) x)) (sym (next_is m y e)) (rest i (omega (arith, below)))

  pub climbs_on : (m count : ℕ) → Climbs m (suc count) → Climbs (next m) count
  climbs_on m count c i below = c (suc i) (omega (arith, below))

  -- the first so many parents above
  abbrev parents_above : ℕ → ℕ → List ℕ
  parents_above zero m = []
  parents_above (suc count) m = next m ∷ parents_above count (next m)

  length_above : (count m : ℕ) → length (parents_above count m) ≡ count
  length_above zero m = refl
  length_above (suc count) m = ap suc (length_above count (next m))

  module _ (graph : List (List ℕ)) (acyclic : IsAcyclic graph) (step_to : (x y : ℕ) → parent x ≡ Some y → Step graph x y) (nodes : ℕ) (within : (x y : ℕ) → parent x ≡ Some y → x < nodes) where
    way_up : (count m : ℕ) → Climbs m (suc count) → IsWay graph nodes m (parents_above count m)
    way_up zero m c = within m (next m) (c 0 (omega arith))
    way_up (suc count) m c = (within m (next m) (c 0 (omega arith)), step_to m (next m) (c 0 (omega arith)), way_up count (next m) (climbs_on m (suc count) c))

    pub few_above : (m count : ℕ) → Climbs m count → count ≤ nodes
    few_above m zero c = omega arith
    few_above m (suc count) c = let most = few graph nodes acyclic m (parents_above count m) (way_up count m c) in omega (arith, most, length_above count m)
