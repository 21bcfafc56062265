-- The last place of a path, and the groups on it.
use Rattle.std.proofs.Common.{◌≡◌, ◌≢◌, take, inl, inr, ℕ, ◌+◌, ◌-◌, ◌<◌, ◌≤◌, List, [], length, slice_get, Some, sym, ap, subst, ◌∙◌, arith}
use Rattle.std.proofs.lemmas.Bool.{cases_lt}
use Rattle.std.proofs.lemmas.Option.{slice_get_within, same_Some, none-some}
use Rattle.widl_graph.specs.declared.search.Mark.{Mark}
use Rattle.widl_graph.specs.declared.search.Mark.TheVariants.{Open}
use Rattle.widl_graph.specs.declared.search.Visit.{Visit}
use Rattle.widl_graph.specs.Search.{Rising, AreGroups, IsPath, IsUnderWay, Has, top_of}
use Rattle.widl_graph.proofs.Gets.{get_some, take_was, take_still}

-- the last of numbers that rise is the greatest
pub top_most : (xs : List ℕ) (top : ℕ) → Rising xs → top_of xs ≡ Some top → (i a : ℕ) → slice_get xs i ≡ Some a → a ≤ top
top_most xs top r t i a h = elim (cases_lt i (length xs - 1)) [
  | inl l ↦ let k = r i (length xs - 1) a top l h t in omega (arith, k)
  | inr l ↦
      let w = slice_get_within xs i a h in
      let e : i ≡ length xs - 1 = omega (arith, w) in
      let same : a ≡ top = same_Some a top (sym h ∙ ap (slice_get xs) e ∙ t) in
      omega (arith, same)
]

-- no group begins after the last place of the path
pub group_most : (graph : List (List ℕ)) (visits : List Visit) (path groups : List ℕ) (top : ℕ) → IsPath graph visits path → AreGroups visits path groups → top_of path ≡ Some top → (i b : ℕ) → slice_get groups i ≡ Some b → b ≤ top
group_most graph visits path groups top w g t i b h = let k = g.begins i b h in top_most path top w.rising t k.0 b k.1

module _ (graph : List (List ℕ)) (marks : List Mark) (order : List ℕ) (visits : List Visit) (path groups : List ℕ) (u : IsUnderWay graph marks order visits path groups) where
  -- the visit at the last place of the path
  pub top_visit : (place : ℕ) → top_of path ≡ Some place → (v : Visit) × (slice_get visits place ≡ Some v)
  top_visit place t = get_some visits place (u.way.within (length path - 1) place t)

  -- a visited node is a node of the graph
  pub node_within : (p : ℕ) (v : Visit) → slice_get visits p ≡ Some v → v.node < length graph
  node_within p v h = let l = slice_get_within marks v.node (Open p) (u.open_nodes.visited p v h) in omega (arith, l, u.size)

  -- the same of lists that are equal
  pub with_lists : (marks' : List Mark) (order' : List ℕ) (visits' : List Visit) (path' groups' : List ℕ) → marks' ≡ marks → order' ≡ order → visits' ≡ visits → path' ≡ path → groups' ≡ groups → IsUnderWay graph marks' order' visits' path' groups'
  with_lists marks' order' visits' path' groups' a b c d e =
      subst (λ m. IsUnderWay graph m order' visits' path' groups') (sym a)
      (subst (λ o. IsUnderWay graph marks o visits' path' groups') (sym b)
      (subst (λ v. IsUnderWay graph marks order v path' groups') (sym c)
      (subst (λ p. IsUnderWay graph marks order visits p groups') (sym d)
      (subst (λ g. IsUnderWay graph marks order visits path g) (sym e) u))))

-- the numbers before the last
module _ (xs : List ℕ) (top n : ℕ) (r : Rising xs) (t : top_of xs ≡ Some top) (size : n + 1 ≡ length xs) where
  last_is : slice_get xs n ≡ Some top
  last_is = let e : n ≡ length xs - 1 = omega arith in ap (slice_get xs) e ∙ t

  -- they are less
  pub front_below : (i a : ℕ) → slice_get (take n xs) i ≡ Some a → (slice_get xs i ≡ Some a) × (a < top)
  front_below i a h = let k = take_was n xs i a h in (k.0, r i n a top k.1 k.0 last_is)

  -- and all but the last are there
  pub front_kept : (a : ℕ) → a ≢ top → Has xs a → Has (take n xs) a
  front_kept a ne h = elim (cases_lt h.0 n) [
    | inl l ↦ (h.0, take_still n xs h.0 a h.1 l)
    | inr l ↦
        let w = slice_get_within xs h.0 a h.1 in
        let e : h.0 ≡ n = omega (arith, l, w) in
        absurd (ne (same_Some a top (sym h.1 ∙ ap (slice_get xs) e ∙ last_is)))
  ]

  pub front_rising : Rising (take n xs)
  front_rising i j a b l hi hj = r i j a b l (take_was n xs i a hi).0 (take_was n xs j b hj).0

-- a list with a last item has an item
pub some_top : (xs : List ℕ) (top : ℕ) → top_of xs ≡ Some top → 0 < length xs
some_top xs top t = let l = slice_get_within xs (length xs - 1) top t in omega (arith, l)

-- where the path is empty, nothing is visited
pub none_visited : (graph : List (List ℕ)) (marks : List Mark) (order : List ℕ) (visits : List Visit) (path groups : List ℕ) → IsUnderWay graph marks order visits path groups → path ≡ [] → (p : ℕ) (v : Visit) → slice_get visits p ≡ Some v → ⊥
none_visited graph marks order visits path groups u e p v h =
    let w = slice_get_within visits p v h in
    let g = u.parts.covered (omega (arith, w)) in
    let b = u.parts.begins g.0 0 g.1 in
    none-some 0 (ap (λ xs. slice_get xs b.0) (sym e) ∙ b.1)
