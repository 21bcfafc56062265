-- Ways along the links of a graph in which nothing reaches itself: they are no longer than the nodes are many.
use Rattle.std.proofs.Common.{◌≡◌, ℕ, ◌<◌, ◌≤◌, Bool, true, false, nat_lt, zero, suc, List, [], ◌∷◌, length, get_or, arith, refl, sym, subst}
use Rattle.widl_graph.proofs.Pigeonhole.{OneToOne, pigeonhole}
use Rattle.widl_graph.specs.Reaching.{IsAcyclic, Reaches, Step, more, one}

module _ (graph : List (List ℕ)) (nodes : ℕ) where
  -- steps lead from x to each of these nodes in turn
  abbrev pub IsWay : ℕ → List ℕ → Type 0
  IsWay x [] = x < nodes
  IsWay x (y ∷ ys) = (x < nodes) × Step graph x y × IsWay y ys

  reached : (x : ℕ) (xs : List ℕ) → IsWay x xs → (j : ℕ) → j < length xs → Reaches graph x (get_or xs j 0)
  reached x [] w j below = absurd (omega (arith, below))
  reached x (y ∷ ys) w zero below = one w.1
  reached x (y ∷ ys) w (suc j) below = more w.1 (reached y ys w.2 j (omega (arith, below)))

  within : (x : ℕ) (xs : List ℕ) → IsWay x xs → (i : ℕ) → i < length (x ∷ xs) → get_or (x ∷ xs) i 0 < nodes
  within x [] w zero below = w
  within x [] w (suc i) below = absurd (omega (arith, below))
  within x (y ∷ ys) w zero below = w.0
  within x (y ∷ ys) w (suc i) below = within y ys w.2 i (omega (arith, below))

  module _ (acyclic : IsAcyclic graph) where
    -- no node is met twice
    apart : (x : ℕ) (xs : List ℕ) → IsWay x xs → (i j : ℕ) → i < j → j < length (x ∷ xs) → get_or (x ∷ xs) i 0 ≡ get_or (x ∷ xs) j 0 → ⊥
    apart x xs w i zero order below same = absurd (omega (arith, order))
    apart x xs w zero (suc j) order below same = acyclic x (subst (Reaches graph x) (sym same) (reached x xs w j (omega (arith, below))))
    apart x [] w (suc i) (suc j) order below same = absurd (omega (arith, below))
    apart x (y ∷ ys) w (suc i) (suc j) order below same = apart y ys w.2 i j (omega (arith, order)) (omega (arith, below)) same

    once : (x : ℕ) (xs : List ℕ) → IsWay x xs → OneToOne (λ i. get_or (x ∷ xs) i 0) (length (x ∷ xs))
    once x xs w i j at_i at_j same = by_order (nat_lt i j) (nat_lt j i) refl refl
      where
        less : (m n : ℕ) → nat_lt m n ≡ true → m < n
        less m n e = grind arith

        even : nat_lt i j ≡ false → nat_lt j i ≡ false → i ≡ j
        even e f =
            let above : j ≤ i = grind arith in
            let below : i ≤ j = grind arith in
            omega (arith, above, below)

        by_order : (a b : Bool) → nat_lt i j ≡ a → nat_lt j i ≡ b → i ≡ j
        by_order true b e f = absurd (apart x xs w i j (less i j e) at_j same)
        by_order false true e f = absurd (apart x xs w j i (less j i f) at_i (sym same))
        by_order false false e f = even e f

    -- so a way is no longer than the nodes are many
    pub few : (x : ℕ) (xs : List ℕ) → IsWay x xs → length (x ∷ xs) ≤ nodes
    few x xs w = pigeonhole (length (x ∷ xs)) nodes (λ i. get_or (x ∷ xs) i 0) (within x xs w) (once x xs w)
