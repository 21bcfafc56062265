-- A new node is entered.
use Rattle.std.proofs.Common.{◌≡◌, ◌≢◌, ◌⊎◌, inl, inr, ℕ, ◌+◌, ◌<◌, List, [], ◌∷◌, ◌++◌, length, set, slice_get, Some, sym, ap, subst, ◌∙◌, arith, length-append, length-set}
use Rattle.std.proofs.lemmas.Bool.{cases_eq}
use Rattle.std.proofs.lemmas.List.Sums.{sum_by-set}
use Rattle.std.proofs.lemmas.Option.{slice_get_within, get_or_from_slice_get}
use Rattle.widl_graph.specs.declared.search.Mark.{Mark}
use Rattle.widl_graph.specs.declared.search.Mark.TheVariants.{New, Open, Plain, Cyclic}
use Rattle.widl_graph.specs.declared.search.Visit.{Visit}
use Rattle.widl_graph.specs.Reaching.{Step, Reaches, successors_of}
use Rattle.widl_graph.specs.Search.{one_new, news, Rising, Has, Done, IsSettled, AreOpen, IsPath, AreGroups, NotEarlier, Seen, AreLinked, IsUnderWay, StaysKnown, top_of}
use Rattle.widl_graph.proofs.Gets.{get_one, push_old, push_last, push_cases, set_same, set_other, set_cases}
use Rattle.widl_graph.proofs.Reach.{then_step}
use Rattle.widl_graph.proofs.Tops.{group_most}

-- a number above all in the list, put at its end
pub rising_push : (xs : List ℕ) (x : ℕ) → Rising xs → ((i a : ℕ) → slice_get xs i ≡ Some a → a < x) → Rising (xs ++ x ∷ [])
rising_push xs x r above i j a b l hi hj = by (push_cases xs x a i hi) (push_cases xs x b j hj)
  where
    by : (slice_get xs i ≡ Some a) ⊎ ((i ≡ length xs) × (a ≡ x)) → (slice_get xs j ≡ Some b) ⊎ ((j ≡ length xs) × (b ≡ x)) → a < b
    by (inl p) (inl q) = r i j a b l p q
    by (inl p) (inr q) = let k = above i a p in omega (arith, k, q.1)
    by (inr p) (inl q) = absurd (let k = slice_get_within xs j b q in omega (arith, k, p.0))
    by (inr p) (inr q) = absurd (omega (arith, p.0, q.0))

pub has_push : (xs : List ℕ) (x a : ℕ) → Has xs a → Has (xs ++ x ∷ []) a
has_push xs x a h = (h.0, push_old xs x a h.0 h.1)

module _ (graph : List (List ℕ)) (marks : List Mark) (order : List ℕ) (visits : List Visit) (path groups : List ℕ) (node : ℕ) (visit : Visit) (u : IsUnderWay graph marks order visits path groups) (fresh : slice_get marks node ≡ Some New) (is : visit.node ≡ node) (none : visit.next ≡ 0) where
  abbrev now : List Mark
  now = set marks node (Open (length visits))

  mark_kept : (x : ℕ) (m : Mark) → New ≢ m → slice_get marks x ≡ Some m → slice_get now x ≡ Some m
  mark_kept x m ne h = set_other marks node x (Open (length visits)) (λ e. ne (get_one marks node New m fresh (ap (slice_get marks) (sym e) ∙ h))) ∙ h

  mark_was : (x : ℕ) (m : Mark) → m ≢ Open (length visits) → slice_get now x ≡ Some m → slice_get marks x ≡ Some m
  mark_was x m ne h = elim (set_cases marks node x m (Open (length visits)) h) [ inl k ↦ k.1 | inr k ↦ absurd (ne k.1) ]

  done_kept : (x r : ℕ) → Done marks x r → Done now x r
  done_kept x r (inl h) = inl (mark_kept x (Plain r) (λ e. (cc)) h)
  done_kept x r (inr h) = inr (mark_kept x (Cyclic r) (λ e. (cc)) h)

  done_was : (x r : ℕ) → Done now x r → Done marks x r
  done_was x r (inl h) = inl (mark_was x (Plain r) (λ e. (cc)) h)
  done_was x r (inr h) = inr (mark_was x (Cyclic r) (λ e. (cc)) h)

  settled_still : IsSettled graph now order
  settled_still = record {
    falls = λ x r h. u.settled.falls x r (mark_was x (Plain r) (λ e. (cc)) h);
    stays = λ x r h y s. let k = u.settled.stays x r (mark_was x (Cyclic r) (λ e. (cc)) h) y s in (k.0, done_kept y k.0 k.1, k.2);
    cyclic = λ x r h. u.settled.cyclic x r (mark_was x (Cyclic r) (λ e. (cc)) h);
    ranked = λ i x h. let k = u.settled.ranked i x h in (k.0, done_kept x k.0 k.1, k.2);
    listed = λ x r d. u.settled.listed x r (done_was x r d);
    once = u.settled.once;
  }

  open_now : AreOpen now (visits ++ visit ∷ [])
  open_now = record { opened = opened_now; visited = visited_now }
    where
      opened_now : (x p : ℕ) → slice_get now x ≡ Some (Open p) → (v : Visit) × (slice_get (visits ++ visit ∷ []) p ≡ Some v) × (v.node ≡ x)
      opened_now x p h = by (set_cases marks node x (Open p) (Open (length visits)) h)
        where
          by : ((x ≢ node) × (slice_get marks x ≡ Some (Open p))) ⊎ ((x ≡ node) × (Open p ≡ Open (length visits))) → (v : Visit) × (slice_get (visits ++ visit ∷ []) p ≡ Some v) × (v.node ≡ x)
          by (inl k) = let o = u.open_nodes.opened x p k.1 in (o.0, push_old visits visit o.0 p o.1, o.2)
          by (inr k) =
              let f : Open p ≡ Open (length visits) = k.1 in
              let e : p ≡ length visits = (cc) in
              (visit, ap (slice_get (visits ++ visit ∷ [])) e ∙ push_last visits visit, is ∙ sym k.0)

      visited_now : (p : ℕ) (v : Visit) → slice_get (visits ++ visit ∷ []) p ≡ Some v → slice_get now v.node ≡ Some (Open p)
      visited_now p v h = by (push_cases visits visit v p h)
        where
          by : (slice_get visits p ≡ Some v) ⊎ ((p ≡ length visits) × (v ≡ visit)) → slice_get now v.node ≡ Some (Open p)
          by (inl k) = mark_kept v.node (Open p) (λ e. (cc)) (u.open_nodes.visited p v k)
          by (inr k) = ap (λ w. slice_get now w.node) k.1 ∙ ap (slice_get now) is ∙ set_same marks node New (Open (length visits)) fresh ∙ ap (λ q. Some (Open q)) (sym k.0)

  way_now : IsPath graph (visits ++ visit ∷ []) (path ++ length visits ∷ [])
  way_now = record { rising = rising_push path (length visits) u.way.rising u.way.within; within = within_now; rest = rest_now }
    where
      within_now : (i p : ℕ) → slice_get (path ++ length visits ∷ []) i ≡ Some p → p < length (visits ++ visit ∷ [])
      within_now i p h = by (push_cases path (length visits) p i h)
        where
          by : (slice_get path i ≡ Some p) ⊎ ((i ≡ length path) × (p ≡ length visits)) → p < length (visits ++ visit ∷ [])
          by (inl k) = let l = u.way.within i p k in omega (arith, l, length-append visits (visit ∷ []))
          by (inr k) = omega (arith, k.1, length-append visits (visit ∷ []))

      rest_now : (p : ℕ) (v : Visit) → slice_get (visits ++ visit ∷ []) p ≡ Some v → v.next < length (successors_of graph v.node) → Has (path ++ length visits ∷ []) p
      rest_now p v h l = by (push_cases visits visit v p h)
        where
          by : (slice_get visits p ≡ Some v) ⊎ ((p ≡ length visits) × (v ≡ visit)) → Has (path ++ length visits ∷ []) p
          by (inl k) = has_push path (length visits) p (u.way.rest p v k l)
          by (inr k) = (length path, push_last path (length visits) ∙ ap Some (sym k.0))

  parts_now : AreGroups (visits ++ visit ∷ []) (path ++ length visits ∷ []) (groups ++ length visits ∷ [])
  parts_now = record { rising = rising_push groups (length visits) u.parts.rising (λ i a h. let b = u.parts.begins i a h in u.way.within b.0 a b.1); begins = begins_now; covered = covered_now }
    where
      begins_now : (i b : ℕ) → slice_get (groups ++ length visits ∷ []) i ≡ Some b → Has (path ++ length visits ∷ []) b
      begins_now i b h = by (push_cases groups (length visits) b i h)
        where
          by : (slice_get groups i ≡ Some b) ⊎ ((i ≡ length groups) × (b ≡ length visits)) → Has (path ++ length visits ∷ []) b
          by (inl k) = has_push path (length visits) b (u.parts.begins i b k)
          by (inr k) = (length path, push_last path (length visits) ∙ ap Some (sym k.1))

      covered_now : 0 < length (visits ++ visit ∷ []) → Has (groups ++ length visits ∷ []) 0
      covered_now l = elim (cases_eq 0 (length visits)) [
        | inl e ↦ (length groups, push_last groups (length visits) ∙ ap Some (sym e))
        | inr ne ↦ has_push groups (length visits) 0 (u.parts.covered (omega (arith, ne)))
      ]

  module _ (leads : (p : ℕ) (v : Visit) → slice_get visits p ≡ Some v → Reaches graph v.node node) where
    links_now : AreLinked graph now (visits ++ visit ∷ []) (groups ++ length visits ∷ [])
    links_now = record { seen = seen_now; reaches = reaches_now }
      where
        still : (p q : ℕ) → p < length visits → NotEarlier groups p q → NotEarlier (groups ++ length visits ∷ []) p q
        still p q l ne i b h m = elim (push_cases groups (length visits) b i h) [ inl k ↦ ne i b k m | inr k ↦ absurd (omega (arith, k.1)) ]

        seen_still : (p y : ℕ) → p < length visits → Seen marks groups p y → Seen now (groups ++ length visits ∷ []) p y
        seen_still p y l (inl d) = inl (d.0, done_kept y d.0 d.1)
        seen_still p y l (inr k) = inr (k.0, mark_kept y (Open k.0) (λ e. (cc)) k.1, still p k.0 l k.2)

        seen_now : (p : ℕ) (v : Visit) (e y : ℕ) → slice_get (visits ++ visit ∷ []) p ≡ Some v → e < v.next → slice_get (successors_of graph v.node) e ≡ Some y → Seen now (groups ++ length visits ∷ []) p y
        seen_now p v e y h l s = by (push_cases visits visit v p h)
          where
            by : (slice_get visits p ≡ Some v) ⊎ ((p ≡ length visits) × (v ≡ visit)) → Seen now (groups ++ length visits ∷ []) p y
            by (inl k) = seen_still p y (slice_get_within visits p v k) (u.links.seen p v e y k l s)
            by (inr k) = absurd (let z : v.next ≡ 0 = ap (λ (w : Visit). w.next) k.1 ∙ none in omega (arith, z, l))

        reaches_now : (p q : ℕ) (v w : Visit) → slice_get (visits ++ visit ∷ []) p ≡ Some v → slice_get (visits ++ visit ∷ []) q ≡ Some w → NotEarlier (groups ++ length visits ∷ []) p q → (v.node ≡ w.node) ⊎ Reaches graph v.node w.node
        reaches_now p q v w hp hq ne = by (push_cases visits visit v p hp) (push_cases visits visit w q hq)
          where
            by : (slice_get visits p ≡ Some v) ⊎ ((p ≡ length visits) × (v ≡ visit)) → (slice_get visits q ≡ Some w) ⊎ ((q ≡ length visits) × (w ≡ visit)) → (v.node ≡ w.node) ⊎ Reaches graph v.node w.node
            by (inl kp) (inl kq) = u.links.reaches p q v w kp kq (λ i b h m. ne i b (push_old groups (length visits) b i h) m)
            by (inl kp) (inr kq) = inr (subst (λ x. Reaches graph v.node x) (sym is ∙ ap (λ (z : Visit). z.node) (sym kq.1)) (leads p v kp))
            by (inr kp) (inl kq) = absurd (let l = slice_get_within visits q w kq in let m = ne (length groups) (length visits) (push_last groups (length visits)) (omega (arith, kp.0)) in omega (arith, l, m))
            by (inr kp) (inr kq) = inl (ap (λ (z : Visit). z.node) (kp.1 ∙ sym kq.1))

    -- all holds again once the node is open, at the end of the path and in a group of its own
    pub entered : IsUnderWay graph now order (visits ++ visit ∷ []) (path ++ length visits ∷ []) (groups ++ length visits ∷ [])
    entered = record {
      size = length-set marks node (Open (length visits)) ∙ u.size;
      counted = counts;
      settled = settled_still;
      open_nodes = open_now;
      way = way_now;
      parts = parts_now;
      links = links_now;
    }
      where
        counts : length order + length (visits ++ visit ∷ []) + news now ≡ length now
        counts =
            let s = sum_by-set one_new marks node (Open (length visits)) New (slice_get_within marks node New fresh) in
            let g = ap one_new (get_or_from_slice_get marks node New New fresh) in
            omega (arith, s, g, u.counted, length-append visits (visit ∷ []), length-set marks node (Open (length visits)))

-- what is visited reaches a successor of the last node of the path
pub all_reach : (graph : List (List ℕ)) (marks : List Mark) (order : List ℕ) (visits : List Visit) (path groups : List ℕ) (place node : ℕ) (last : Visit) → IsUnderWay graph marks order visits path groups → top_of path ≡ Some place → slice_get visits place ≡ Some last → Step graph last.node node
    → (p : ℕ) (v : Visit) → slice_get visits p ≡ Some v → Reaches graph v.node node
all_reach graph marks order visits path groups place node last u t here s p v h =
    then_step graph v.node last.node node (u.links.reaches p place v last h here (λ i b k l. group_most graph visits path groups place u.way u.parts t i b k)) s

pub entered_known : (marks : List Mark) (node p : ℕ) → StaysKnown marks (set marks node (Open p))
entered_known marks node p x h = elim (set_cases marks node x New (Open p) h) [ inl k ↦ k.1 | inr k ↦ absurd (let f : New ≡ Open p = k.1 in (cc)) ]

pub entered_news : (marks : List Mark) (node p : ℕ) → slice_get marks node ≡ Some New → news (set marks node (Open p)) + 1 ≡ news marks
entered_news marks node p h =
    let s = sum_by-set one_new marks node (Open p) New (slice_get_within marks node New h) in
    let g = ap one_new (get_or_from_slice_get marks node New New h) in
    omega (arith, s, g)
