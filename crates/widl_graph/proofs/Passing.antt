-- A successor that is known is looked at.
use Rattle.std.proofs.Common.{◌≡◌, ◌⊎◌, inl, inr, ℕ, ◌+◌, ◌-◌, ◌<◌, List, length, set, slice_get, Some, refl, sym, ap, subst, ◌∙◌, arith, length-set}
use Rattle.std.proofs.lemmas.Bool.{cases_eq, cases_lt}
use Rattle.std.proofs.lemmas.Option.{slice_get_within, same_Some}
use Rattle.widl_graph.specs.declared.search.Mark.{Mark}
use Rattle.widl_graph.specs.declared.search.Mark.TheVariants.{New, Open, Plain, Cyclic}
use Rattle.widl_graph.specs.declared.search.Visit.{Visit}
use Rattle.widl_graph.specs.Reaching.{Reaches, successors_of}
use Rattle.widl_graph.specs.Search.{Rising, Has, Done, AreOpen, IsPath, AreGroups, NotEarlier, Seen, AreLinked, IsUnderWay, AreJoined, AreJoinedAt, top_of, left_of}
use Rattle.widl_graph.proofs.Gets.{get_one, get_some, set_same, set_other, set_cases}
use Rattle.widl_graph.proofs.Reach.{Leads, step_at, then_step, reaches_then}
use Rattle.widl_graph.proofs.Tops.{group_most}

module _ (graph : List (List ℕ)) (marks : List Mark) (order : List ℕ) (visits : List Visit) (path groups : List ℕ) (place target : ℕ) (old new : Visit) (u : IsUnderWay graph marks order visits path groups) (here : slice_get visits place ≡ Some old) (top : top_of path ≡ Some place) (is : slice_get (successors_of graph old.node) old.next ≡ Some target) (node_is : new.node ≡ old.node) (next_is : new.next ≡ old.next + 1) where
  module _ (now : List ℕ) (rising_now : Rising now) (were : (i b : ℕ) → slice_get now i ≡ Some b → Has groups b) (first : Has groups 0 → Has now 0) (target_seen : Seen marks now place target)
      (leads : (p q : ℕ) (v w : Visit) → slice_get visits p ≡ Some v → slice_get visits q ≡ Some w → NotEarlier now p q → Leads graph v.node w.node) where
    -- a visit was there before, to the same node
    was : (p : ℕ) (v : Visit) → slice_get (set visits place new) p ≡ Some v → (w : Visit) × (slice_get visits p ≡ Some w) × (w.node ≡ v.node)
    was p v h = elim (set_cases visits place p v new h) [
      | inl k ↦ (v, k.1, refl)
      | inr k ↦ (old, ap (slice_get visits) k.0 ∙ here, sym node_is ∙ ap (λ (z : Visit). z.node) (sym k.1))
    ]

    open_now : AreOpen marks (set visits place new)
    open_now = record { opened = opened_now; visited = visited_now }
      where
        opened_now : (x p : ℕ) → slice_get marks x ≡ Some (Open p) → (v : Visit) × (slice_get (set visits place new) p ≡ Some v) × (v.node ≡ x)
        opened_now x p h =
            let o = u.open_nodes.opened x p h in
            elim (cases_eq p place) [
              | inl e ↦ (new, ap (slice_get (set visits place new)) e ∙ set_same visits place old new here, node_is ∙ ap (λ (z : Visit). z.node) (get_one visits place old o.0 here (ap (slice_get visits) (sym e) ∙ o.1)) ∙ o.2)
              | inr ne ↦ (o.0, set_other visits place p new ne ∙ o.1, o.2)
            ]

        visited_now : (p : ℕ) (v : Visit) → slice_get (set visits place new) p ≡ Some v → slice_get marks v.node ≡ Some (Open p)
        visited_now p v h = let w = was p v h in ap (slice_get marks) (sym w.2) ∙ u.open_nodes.visited p w.0 w.1

    way_now : IsPath graph (set visits place new) path
    way_now = record { rising = u.way.rising; within = λ i p h. let l = u.way.within i p h in omega (arith, l, length-set visits place new); rest = rest_now }
      where
        rest_now : (p : ℕ) (v : Visit) → slice_get (set visits place new) p ≡ Some v → v.next < length (successors_of graph v.node) → Has path p
        rest_now p v h l = elim (set_cases visits place p v new h) [
          | inl k ↦ u.way.rest p v k.1 l
          | inr k ↦ (length path - 1, top ∙ ap Some (sym k.0))
        ]

    parts_now : AreGroups (set visits place new) path now
    parts_now = record { rising = rising_now; begins = λ i b h. let k = were i b h in u.parts.begins k.0 b k.1; covered = λ l. first (u.parts.covered (omega (arith, length-set visits place new))) }

    links_now : AreLinked graph marks (set visits place new) now
    links_now = record { seen = seen_now; reaches = reaches_now }
      where
        still : (p y : ℕ) → Seen marks groups p y → Seen marks now p y
        still p y (inl d) = inl d
        still p y (inr k) = inr (k.0, k.1, λ i b h m. let g = were i b h in k.2 g.0 b g.1 m)

        seen_here : (e y : ℕ) → e < new.next → slice_get (successors_of graph new.node) e ≡ Some y → Seen marks now place y
        seen_here e y l s =
            let s' : slice_get (successors_of graph old.node) e ≡ Some y = ap (λ n. slice_get (successors_of graph n) e) (sym node_is) ∙ s in
            elim (cases_lt e old.next) [
              | inl m ↦ still place y (u.links.seen place old e y here m s')
              | inr m ↦
                  let i : e ≡ old.next = omega (arith, next_is, l, m) in
                  let same : target ≡ y = same_Some target y (sym is ∙ ap (slice_get (successors_of graph old.node)) (sym i) ∙ s') in
                  subst (λ z. Seen marks now place z) same target_seen
            ]

        seen_now : (p : ℕ) (v : Visit) (e y : ℕ) → slice_get (set visits place new) p ≡ Some v → e < v.next → slice_get (successors_of graph v.node) e ≡ Some y → Seen marks now p y
        seen_now p v e y h l s = elim (set_cases visits place p v new h) [
          | inl k ↦ still p y (u.links.seen p v e y k.1 l s)
          | inr k ↦ subst (λ z. Seen marks now z y) (sym k.0) (seen_here e y (subst (λ (z : Visit). e < z.next) k.1 l) (subst (λ (z : Visit). slice_get (successors_of graph z.node) e ≡ Some y) k.1 s))
        ]

        reaches_now : (p q : ℕ) (v w : Visit) → slice_get (set visits place new) p ≡ Some v → slice_get (set visits place new) q ≡ Some w → NotEarlier now p q → (v.node ≡ w.node) ⊎ Reaches graph v.node w.node
        reaches_now p q v w hp hq ne =
            let a = was p v hp in
            let b = was q w hq in
            subst (λ n. Leads graph n w.node) a.2 (subst (λ n. Leads graph a.0.node n) b.2 (leads p q a.0 b.0 a.1 b.1 ne))

    looked_at : IsUnderWay graph marks order (set visits place new) path now
    looked_at = record {
      size = u.size;
      counted = omega (arith, u.counted, length-set visits place new);
      settled = u.settled;
      open_nodes = open_now;
      way = way_now;
      parts = parts_now;
      links = links_now;
    }

  -- the target is done
  past : (s : ℕ) → Done marks target s → IsUnderWay graph marks order (set visits place new) path groups
  past s d = looked_at groups u.parts.rising (λ i b h. (i, h)) (λ h. h) (inl (s, d)) u.links.reaches

  -- the target is open
  back : (k : ℕ) → slice_get marks target ≡ Some (Open k) → (now : List ℕ) → AreJoined groups now k → IsUnderWay graph marks order (set visits place new) path now
  back k m now j = looked_at now j.rising (λ i b h. (j.none_after i b h).1) (λ h. j.kept h.0 0 h.1 (omega arith)) (inr (k, m, λ i b h l. (j.none_after i b h).0)) leads
    where
      leads : (p q : ℕ) (v w : Visit) → slice_get visits p ≡ Some v → slice_get visits q ≡ Some w → NotEarlier now p q → Leads graph v.node w.node
      leads p q v w hp hq ne = elim (cases_lt k p) [
        | inl l ↦
            let o = u.open_nodes.opened target k m in
            let on = u.links.reaches p place v old hp here (λ i b h n. group_most graph visits path groups place u.way u.parts top i b h) in
            let there = then_step graph v.node old.node target on (step_at graph old.node target old.next is) in
            let from = u.links.reaches k q o.0 w o.1 hq (λ i b h n. let g = j.kept i b h n in ne g.0 b g.1 (omega (arith, n, l))) in
            inr (reaches_then graph v.node target w.node there (subst (λ n. Leads graph n w.node) o.2 from))
        | inr l ↦ u.links.reaches p q v w hp hq (λ i b h n. let g = j.kept i b h (omega (arith, n, l)) in ne g.0 b g.1 n)
      ]

  -- all holds again once a known successor is looked at
  pub passed : (now : List ℕ) → target < length marks → (slice_get marks target ≡ Some New → ⊥) → AreJoinedAt (slice_get marks target) groups now → IsUnderWay graph marks order (set visits place new) path now
  passed now l known j = let m = get_some marks target l in by m.0 m.1 (subst (λ o. AreJoinedAt o groups now) m.1 j)
    where
      by : (m : Mark) → slice_get marks target ≡ Some m → AreJoinedAt (Some m) groups now → IsUnderWay graph marks order (set visits place new) path now
      by New h k = absurd (known h)
      by (Open p) h k = back p h now k
      by (Plain r) h k = subst (λ g. IsUnderWay graph marks order (set visits place new) path g) (sym k) (past r (inl h))
      by (Cyclic r) h k = subst (λ g. IsUnderWay graph marks order (set visits place new) path g) (sym k) (past r (inr h))

  -- and less is left to look at
  pub less_left : left_of graph (slice_get (set visits place new) place) < left_of graph (slice_get visits place)
  less_left =
      let l = slice_get_within (successors_of graph old.node) old.next target is in
      let a : left_of graph (slice_get (set visits place new) place) ≡ length (successors_of graph new.node) - new.next = ap (left_of graph) (set_same visits place old new here) in
      let b : left_of graph (slice_get visits place) ≡ length (successors_of graph old.node) - old.next = ap (left_of graph) here in
      let s : length (successors_of graph new.node) ≡ length (successors_of graph old.node) = ap (λ n. length (successors_of graph n)) node_is in
      omega (arith, l, a, b, s, next_is)
