-- Each tree of a table is its node over the trees of the table, and a table that grows keeps its trees.
use Rattle.std.proofs.Common.{◌≡◌, ℕ, zero, suc, ◌+◌, ◌<◌, ◌≤◌, List, [], ◌∷◌, ◌++◌, length, get_or, refl, sym, ◌∙◌, ap, subst, arith, length-append}
use Rattle.std.proofs.lemmas.List.{get_or_append_left, get_or_push, get_or_past}
use Rattle.widl_script_tree.specs.Folded.{trees_from, tree_in}

module _ {N T : Type 0} (opens : (ℕ → T) → N → T) (no : T) (nothing : N) where
  -- later trees don't change earlier ones
  kept_trees : (done : List T) (nodes : List N) (k : ℕ) → k < length done → get_or (trees_from opens no done nodes) k no ≡ get_or done k no
  kept_trees done [] k lt = refl
  kept_trees done (n ∷ nodes) k lt =
      let x : T = opens (λ place. get_or done place no) n in
      let here : get_or (done ++ x ∷ []) k no ≡ get_or done k no = get_or_append_left done (x ∷ []) no k lt in
      kept_trees (done ++ x ∷ []) nodes k (omega (arith, length-append done (x ∷ []))) ∙ here

  trees_length : (done : List T) (nodes : List N) → length (trees_from opens no done nodes) ≡ length done + length nodes
  trees_length done [] = omega arith
  trees_length done (n ∷ nodes) =
      let x : T = opens (λ place. get_or done place no) n in
      omega (arith, trees_length (done ++ x ∷ []) nodes, length-append done (x ∷ []))

  pub tree_past : (nodes : List N) (place : ℕ) → length nodes ≤ place → tree_in opens no nodes place ≡ no
  tree_past nodes place le = get_or_past (trees_from opens no [] nodes) place no (omega (arith, trees_length [] nodes))

  module _ (Lower : ℕ → N → Type 0) (same : (f g : ℕ → T) (i : ℕ) (n : N) → Lower i n → ((k : ℕ) → k < i → f k ≡ g k) → opens f n ≡ opens g n) where
    opened_from : (done : List T) (nodes : List N) (i at : ℕ) → at ≡ length done + i → i < length nodes → Lower at (get_or nodes i nothing) → get_or (trees_from opens no done nodes) at no ≡ opens (λ place. get_or (trees_from opens no done nodes) place no) (get_or nodes i nothing)
    opened_from done [] i at is lt lower = absurd (omega arith)
    opened_from done (n ∷ nodes) zero at is lt lower =
        let x : T = opens (λ place. get_or done place no) n in
        let here : get_or (done ++ x ∷ []) at no ≡ x = get_or_push done x no at (omega arith) in
        kept_trees (done ++ x ∷ []) nodes at (omega (arith, length-append done (x ∷ []))) ∙ here
        ∙ same (λ place. get_or done place no) (λ place. get_or (trees_from opens no (done ++ x ∷ []) nodes) place no) at n lower (λ k less. sym (kept_trees done (n ∷ nodes) k (omega arith)))
    opened_from done (n ∷ nodes) (suc i) at is lt lower =
        let x : T = opens (λ place. get_or done place no) n in
        opened_from (done ++ x ∷ []) nodes i at (omega (arith, length-append done (x ∷ []))) (omega arith) lower

    pub tree_opens : (nodes : List N) (place : ℕ) → place < length nodes → Lower place (get_or nodes place nothing) → tree_in opens no nodes place ≡ opens (tree_in opens no nodes) (get_or nodes place nothing)
    tree_opens nodes place lt lower = opened_from [] nodes place place (omega arith) lt lower

-- two ways to open that agree on the nodes of the first table, of which the second is a continuation
module _ {N T : Type 0} (opens later : (ℕ → T) → N → T) (no : T) (nothing : N) (Lower : ℕ → N → Type 0)
    (same : (f g : ℕ → T) (i : ℕ) (n : N) → Lower i n → ((k : ℕ) → k < i → f k ≡ g k) → opens f n ≡ opens g n)
    (agree : (f : ℕ → T) (i : ℕ) (n : N) → Lower i n → later f n ≡ opens f n)
    (old new : List N) (longer : length old ≤ length new)
    (held : (k : ℕ) → k < length old → get_or new k nothing ≡ get_or old k nothing)
    (lower : (k : ℕ) → k < length old → Lower k (get_or old k nothing)) where
  later_same : (f g : ℕ → T) (i : ℕ) (n : N) → Lower i n → ((k : ℕ) → k < i → f k ≡ g k) → later f n ≡ later g n
  later_same f g i n low e = agree f i n low ∙ same f g i n low e ∙ sym (agree g i n low)

  keeps_below : (n place : ℕ) → place < n → place < length old → tree_in later no new place ≡ tree_in opens no old place
  keeps_below zero place lt within = absurd (omega arith)
  keeps_below (suc n) place lt within =
      let node : N = get_or old place nothing in
      let low : Lower place node = lower place within in
      let here : get_or new place nothing ≡ node = held place within in
      tree_opens later no nothing Lower later_same new place (omega (arith, within, longer)) (subst (Lower place) (sym here) low)
      ∙ ap (later (tree_in later no new)) here
      ∙ agree (tree_in later no new) place node low
      ∙ same (tree_in later no new) (tree_in opens no old) place node low (λ k less. keeps_below n k (omega arith) (omega arith))
      ∙ sym (tree_opens opens no nothing Lower same old place within low)

  pub keeps : (place : ℕ) → place < length old → tree_in later no new place ≡ tree_in opens no old place
  keeps place within = keeps_below (suc place) place (omega arith) within
