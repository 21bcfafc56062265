-- What one more node and one more successor leave of a graph, for those who build one.
use Rattle.std.proofs.Common.{◌≡◌, ◌⊎◌, inl, inr, ℕ, ◌+◌, ◌<◌, ◌≤◌, zero, suc, List, [], ◌∷◌, ◌++◌, length, length-append, take, get_or, refl, sym, ap, subst, arith, ◌∙◌}
use Rattle.std.specs.List.{Contains}
use Rattle.std.proofs.lemmas.List.{take_more, take_all}
use Rattle.std.proofs.lemmas.List.Elements.{Contains-push_cases}
use Rattle.widl_graph.specs.Lists.{with_successor}
use Rattle.widl_graph.specs.Reaching.{Step, AreBelow, successors_of}

-- a successor is no node
pub length-with_successor : (graph : List (List ℕ)) (x : ℕ) → length (with_successor graph x) ≡ length graph
length-with_successor [] x = refl
length-with_successor (xs ∷ []) x = refl
length-with_successor (xs ∷ (ys ∷ rest)) x = ap suc (length-with_successor (ys ∷ rest) x)

-- it is the last node's
pub with_successor-append : (graph : List (List ℕ)) (last : List ℕ) (x : ℕ) → with_successor (graph ++ last ∷ []) x ≡ graph ++ (last ++ x ∷ []) ∷ []
with_successor-append [] last x = refl
with_successor-append (xs ∷ []) last x = refl
with_successor-append (xs ∷ (ys ∷ rest)) last x = ap (λ g. xs ∷ g) (with_successor-append (ys ∷ rest) last x)

-- the successors are below a count, as before
pub below_none : (count : ℕ) → AreBelow [] count
below_none count = record { below = λ x y s. absurd (let l = s.1 in omega arith) }

same_successors : (graph : List (List ℕ)) (x : ℕ) → successors_of (graph ++ [] ∷ []) x ≡ successors_of graph x
same_successors [] zero = refl
same_successors [] (suc x) = refl
same_successors (xs ∷ graph) zero = refl
same_successors (xs ∷ graph) (suc x) = same_successors graph x

pub below_node : (graph : List (List ℕ)) (count : ℕ) → AreBelow graph count → AreBelow (graph ++ [] ∷ []) count
below_node graph count h = record { below = λ x y s. h.below x y (subst (λ xs. Contains xs y) (same_successors graph x) s) }

more_below : (graph : List (List ℕ)) (count z : ℕ) → ((x y : ℕ) → Step graph x y → y < count) → z < count → (x y : ℕ) → Step (with_successor graph z) x y → y < count
more_below [] count z h l x y s = h x y s
more_below (xs ∷ []) count z h l zero y s = by (Contains-push_cases xs z y s)
  where
    by : Contains xs y ⊎ (z ≡ y) → y < count
    by (inl k) = h 0 y k
    by (inr e) = omega (arith, e, l)
more_below (xs ∷ []) count z h l (suc x) y s = absurd (let k = s.1 in omega arith)
more_below (xs ∷ (ys ∷ rest)) count z h l zero y s = h 0 y s
more_below (xs ∷ (ys ∷ rest)) count z h l (suc x) y s = more_below (ys ∷ rest) count z (λ i k t. h (suc i) k t) l x y s

pub below_successor : (graph : List (List ℕ)) (count z : ℕ) → AreBelow graph count → z < count → AreBelow (with_successor graph z) count
below_successor graph count z h l = record { below = more_below graph count z h.below l }

-- one more successor of the last node, as a loop over them has it
pub successor_more : (start : List (List ℕ)) (xs : List ℕ) (i x : ℕ) (old new : List (List ℕ)) → i < length xs → x ≡ get_or xs i x → new ≡ with_successor old x → old ≡ start ++ take i xs ∷ [] → new ≡ start ++ take (i + 1) xs ∷ []
successor_more start xs i x old new below is added so =
    added ∙ ap (λ g. with_successor g x) so ∙ with_successor-append start (take i xs) x
    ∙ ap (λ l. start ++ l ∷ []) (sym (take_more xs i x below ∙ ap (λ y. take i xs ++ y ∷ []) (sym is)))

-- after the last successor
pub successors_all : (start : List (List ℕ)) (xs : List ℕ) (i : ℕ) (new : List (List ℕ)) → length xs ≤ i → new ≡ start ++ take i xs ∷ [] → new ≡ start ++ xs ∷ []
successors_all start xs i new past so = so ∙ ap (λ l. start ++ l ∷ []) (take_all i xs past)

-- a graph with one more node has nodes
pub has_last : (start : List (List ℕ)) (last : List ℕ) (graph : List (List ℕ)) → graph ≡ start ++ last ∷ [] → 0 < length graph
has_last start last graph so = let size : length graph ≡ length start + length (last ∷ []) = ap length so ∙ length-append start (last ∷ []) in omega (arith, size)
