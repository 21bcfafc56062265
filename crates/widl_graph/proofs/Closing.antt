-- A visit ends, and its group, the last, is done.
use Rattle.std.proofs.Common.{◌≡◌, ◌≢◌, ◌⊎◌, inl, inr, ℕ, ◌+◌, ◌-◌, ◌<◌, ◌≤◌, List, length, take, slice_get, Some, sym, ap, subst, ◌∙◌, arith, length-take}
use Rattle.std.proofs.lemmas.Bool.{cases_eq, cases_lt}
use Rattle.std.proofs.lemmas.Option.{slice_get_within, same_Some}
use Rattle.widl_graph.specs.declared.search.Mark.{Mark}
use Rattle.widl_graph.specs.declared.search.Mark.TheVariants.{New, Open, Plain, Cyclic}
use Rattle.widl_graph.specs.declared.search.Visit.{Visit}
use Rattle.widl_graph.specs.Reaching.{Step, Reaches, one, successors_of}
use Rattle.widl_graph.specs.Search.{Has, Done, IsSettled, AreOpen, IsPath, AreGroups, NotEarlier, Seen, AreLinked, IsUnderWay, IsClosing, IsBetween, AreMoved, top_of}
use Rattle.widl_graph.proofs.Gets.{get_one, get_some, take_was, take_still}
use Rattle.widl_graph.proofs.Reach.{Leads, at_step, joined}
use Rattle.widl_graph.proofs.Tops.{top_most, group_most, front_below, front_kept, front_rising}

-- a done node has one rank, and is neither open nor new
pub one_rank : (marks : List Mark) (x r s : ℕ) → Done marks x r → Done marks x s → r ≡ s
one_rank marks x r s (inl h) (inl k) = let f : Some (Plain r) ≡ Some (Plain s) = sym h ∙ k in (cc)
one_rank marks x r s (inl h) (inr k) = absurd (let f : Some (Plain r) ≡ Some (Cyclic s) = sym h ∙ k in (cc))
one_rank marks x r s (inr h) (inl k) = absurd (let f : Some (Cyclic r) ≡ Some (Plain s) = sym h ∙ k in (cc))
one_rank marks x r s (inr h) (inr k) = let f : Some (Cyclic r) ≡ Some (Cyclic s) = sym h ∙ k in (cc)

done_not_open : (marks : List Mark) (x r p : ℕ) → Done marks x r → slice_get marks x ≡ Some (Open p) → ⊥
done_not_open marks x r p (inl h) k = let f : Some (Plain r) ≡ Some (Open p) = sym h ∙ k in (cc)
done_not_open marks x r p (inr h) k = let f : Some (Cyclic r) ≡ Some (Open p) = sym h ∙ k in (cc)

same_place : (marks : List Mark) (x p q : ℕ) → slice_get marks x ≡ Some (Open p) → slice_get marks x ≡ Some (Open q) → p ≡ q
same_place marks x p q h k = let f : Some (Open p) ≡ Some (Open q) = sym h ∙ k in (cc)

module _ (graph : List (List ℕ)) (marks now : List Mark) (order longer : List ℕ) (visits : List Visit) (path groups : List ℕ) (base n g : ℕ) (mark : Mark) (u : IsUnderWay graph marks order visits path groups)
    (top : top_of path ≡ Some base) (size : n + 1 ≡ length path) (last : top_of groups ≡ Some base) (group_size : g + 1 ≡ length groups)
    (finished : (v : Visit) → slice_get visits base ≡ Some v → length (successors_of graph v.node) ≤ v.next)
    (closing : IsClosing graph visits base (length order) mark) (m : AreMoved visits base (length visits) mark marks now order longer) where
  -- what is moved was open
  was_open : (x : ℕ) (b : IsBetween visits base (length visits) x) → slice_get marks x ≡ Some (Open b.place)
  was_open x b = ap (slice_get marks) (sym b.node) ∙ u.open_nodes.visited b.place b.visit b.is

  has_mark : (x : ℕ) → IsBetween visits base (length visits) x → slice_get now x ≡ Some mark
  has_mark x b = ap (slice_get now) (sym b.node) ∙ m.marked b.place b.visit b.is b.after b.before

  -- and is done
  done_mark : (k : Mark) → IsClosing graph visits base (length order) k → (x : ℕ) → slice_get now x ≡ Some k → Done now x (length order)
  done_mark New c x h = absurd c
  done_mark (Open p) c x h = absurd c
  done_mark (Plain r) c x h = inl (h ∙ ap (λ q. Some (Plain q)) c.0)
  done_mark (Cyclic r) c x h = inr (h ∙ ap (λ q. Some (Cyclic q)) c.0)

  is_done : (x : ℕ) → IsBetween visits base (length visits) x → Done now x (length order)
  is_done x b = done_mark mark closing x (has_mark x b)

  not_open : (k : Mark) → IsClosing graph visits base (length order) k → (p : ℕ) → k ≢ Open p
  not_open New c p e = c
  not_open (Open q) c p e = c
  not_open (Plain r) c p e = (cc)
  not_open (Cyclic r) c p e = (cc)

  done_kept : (x r : ℕ) → Done marks x r → Done now x r
  done_kept x r d = by (m.others x) d
    where
      by : (slice_get now x ≡ slice_get marks x) ⊎ IsBetween visits base (length visits) x → Done marks x r → Done now x r
      by (inl same) (inl h) = inl (same ∙ h)
      by (inl same) (inr h) = inr (same ∙ h)
      by (inr b) h = absurd (done_not_open marks x r b.place h (was_open x b))

  -- the visit of an open node is moved, if it is not before the group
  moved_at : (y q : ℕ) → slice_get marks y ≡ Some (Open q) → base ≤ q → IsBetween visits base (length visits) y
  moved_at y q h l =
      let o = u.open_nodes.opened y q h in
      record { place = q; visit = o.0; is = o.1; node = o.2; after = l; before = slice_get_within visits q o.0 o.1 }

  open_was : (x p : ℕ) → slice_get now x ≡ Some (Open p) → (slice_get marks x ≡ Some (Open p)) × (p < base)
  open_was x p h = by (m.others x)
    where
      clash : IsBetween visits base (length visits) x → ⊥
      clash b = not_open mark closing p (same_Some mark (Open p) (sym (has_mark x b) ∙ h))

      by : (slice_get now x ≡ slice_get marks x) ⊎ IsBetween visits base (length visits) x → (slice_get marks x ≡ Some (Open p)) × (p < base)
      by (inl same) = elim (cases_lt p base) [ inl l ↦ (sym same ∙ h, l) | inr l ↦ absurd (clash (moved_at x p (sym same ∙ h) l)) ]
      by (inr b) = absurd (clash b)

  open_kept : (x p : ℕ) → slice_get marks x ≡ Some (Open p) → p < base → slice_get now x ≡ Some (Open p)
  open_kept x p h l = by (m.others x)
    where
      by : (slice_get now x ≡ slice_get marks x) ⊎ IsBetween visits base (length visits) x → slice_get now x ≡ Some (Open p)
      by (inl same) = same ∙ h
      by (inr b) = absurd (let e = same_place marks x p b.place h (was_open x b) in let a = b.after in omega (arith, e, a, l))

  -- a visit of the group has looked at all successors
  all_looked_at : (p : ℕ) (v : Visit) → slice_get visits p ≡ Some v → base ≤ p → length (successors_of graph v.node) ≤ v.next
  all_looked_at p v h l = elim (cases_lt v.next (length (successors_of graph v.node))) [
    | inl k ↦
        let i = u.way.rest p v h k in
        let most = top_most path base u.way.rising top i.0 p i.1 in
        let e : p ≡ base = omega (arith, l, most) in
        finished v (ap (slice_get visits) (sym e) ∙ h)
    | inr k ↦ k
  ]

  -- so a step from it leads to what is done, or to the group
  step_from : (x y : ℕ) → IsBetween visits base (length visits) x → Step graph x y → ((s : ℕ) × Done marks y s) ⊎ IsBetween visits base (length visits) y
  step_from x y b s =
      let e = at_step graph b.visit.node y (subst (λ z. Step graph z y) (sym b.node) s) in
      let w = slice_get_within (successors_of graph b.visit.node) e.0 y e.1 in
      let all = all_looked_at b.place b.visit b.is b.after in
      by (u.links.seen b.place b.visit e.0 y b.is (omega (arith, w, all)) e.1)
    where
      by : Seen marks groups b.place y → ((s : ℕ) × Done marks y s) ⊎ IsBetween visits base (length visits) y
      by (inl d) = inl d
      by (inr k) = inr (moved_at y k.0 k.1 (k.2 (length groups - 1) base last b.after))

  -- two nodes of the group reach each other
  both_ways : (x : ℕ) (b : IsBetween visits base (length visits) x) (q : ℕ) → base ≤ q → q < length visits → b.place ≢ q → Reaches graph x x
  both_ways x b q l w ne =
      let z = get_some visits q w in
      let there = u.links.reaches b.place q b.visit z.0 b.is z.1 (λ i a h k. let most = group_most graph visits path groups base u.way u.parts top i a h in omega (arith, most, l)) in
      let back = u.links.reaches q b.place z.0 b.visit z.1 b.is (λ i a h k. let most = group_most graph visits path groups base u.way u.parts top i a h in let after = b.after in omega (arith, most, after)) in
      subst (λ k. Reaches graph k k) b.node (by z.0 z.1 there back)
    where
      apart : (w : Visit) → slice_get visits q ≡ Some w → b.visit.node ≡ w.node → ⊥
      apart w h e = ne (same_place marks w.node b.place q (ap (slice_get marks) (sym e) ∙ u.open_nodes.visited b.place b.visit b.is) (u.open_nodes.visited q w h))

      by : (w : Visit) → slice_get visits q ≡ Some w → Leads graph b.visit.node w.node → Leads graph w.node b.visit.node → Reaches graph b.visit.node b.visit.node
      by w h (inl e) k = absurd (apart w h e)
      by w h (inr p) (inl e) = absurd (apart w h (sym e))
      by w h (inr p) (inr q) = joined p q

  -- a node of a group of several reaches itself
  several : (x : ℕ) → IsBetween visits base (length visits) x → base + 1 < length visits → Reaches graph x x
  several x b l = elim (cases_eq b.place base) [
    | inl e ↦ both_ways x b (base + 1) (omega arith) l (λ k. omega (arith, k, e))
    | inr ne ↦ both_ways x b base (omega arith) (omega (arith, l)) ne
  ]

  -- the group's only node
  only : (x : ℕ) (v : Visit) (b : IsBetween visits base (length visits) x) → length visits ≤ base + 1 → slice_get visits base ≡ Some v → x ≡ v.node
  only x v b l h =
      let a = b.after in
      let w = b.before in
      let e : b.place ≡ base = omega (arith, a, w, l) in
      sym b.node ∙ ap (λ (z : Visit). z.node) (get_one visits base b.visit v (ap (slice_get visits) (sym e) ∙ b.is) h)

  -- what stands in the longer order stood there before, or is moved
  order_was : (i x : ℕ) → slice_get longer i ≡ Some x → (slice_get order i ≡ Some x) ⊎ ((b : IsBetween visits base (length visits) x) × (i ≡ length order + (b.place - base)))
  order_was i x h = elim (cases_lt i (length order)) [
    | inl l ↦ inl (sym (m.kept i l) ∙ h)
    | inr l ↦
        let w = slice_get_within longer i x h in
        let p : base + (i - length order) < length visits = omega (arith, w, l, m.length_is) in
        let v = get_some visits (base + (i - length order)) p in
        let place : length order + (base + (i - length order) - base) ≡ i = omega (arith, l) in
        let is = m.placed (base + (i - length order)) v.0 v.1 (omega arith) p in
        let same : v.0.node ≡ x = same_Some v.0.node x (sym is ∙ ap (slice_get longer) place ∙ h) in
        inr (record { place = base + (i - length order); visit = v.0; is = v.1; node = same; after = omega arith; before = p }, sym place)
  ]

  order_still : (i x : ℕ) → slice_get order i ≡ Some x → slice_get longer i ≡ Some x
  order_still i x h = m.kept i (slice_get_within order i x h) ∙ h

  -- a rank that a node had is below the length of the order
  rank_below : (y s : ℕ) → Done marks y s → s ≤ length order
  rank_below y s d =
      let i = u.settled.listed y s d in
      let r = u.settled.ranked i.0 y i.1 in
      let w = slice_get_within order i.0 y i.1 in
      let e = one_rank marks y s r.0 d r.1 in
      let l = r.2 in
      omega (arith, w, e, l)

  falls_now : (k : Mark) (r x : ℕ) → IsClosing graph visits base (length order) k → k ≡ Plain r → IsBetween visits base (length visits) x → (slice_get longer r ≡ Some x) × ((y : ℕ) → Step graph x y → (i : ℕ) × (i < r) × (slice_get longer i ≡ Some y))
  falls_now New r x c e b = absurd c
  falls_now (Open p) r x c e b = absurd c
  falls_now (Cyclic q) r x c e b = absurd (let f : Cyclic q ≡ Plain r = e in (cc))
  falls_now (Plain q) r x c e b =
      let f : Plain q ≡ Plain r = e in
      let same : q ≡ r = (cc) in
      let rank : length order + (b.place - base) ≡ r = (let a = b.after in let w = b.before in omega (arith, same, c.0, c.1, a, w)) in
      let count = c.0 in
      let v = get_some visits base (let a = b.after in let w = b.before in omega (arith, a, w)) in
      let self : x ≡ v.0.node = only x v.0 b c.1 v.1 in (
        ap (slice_get longer) (sym rank) ∙ m.placed b.place b.visit b.is b.after b.before ∙ ap Some b.node,
        λ y s. by y s (same) (count) v.0 v.1 self (step_from x y b s),
      )
    where
      by : (y : ℕ) → Step graph x y → q ≡ r → q ≡ length order → (v : Visit) → slice_get visits base ≡ Some v → x ≡ v.node → ((s : ℕ) × Done marks y s) ⊎ IsBetween visits base (length visits) y → (i : ℕ) × (i < r) × (slice_get longer i ≡ Some y)
      by y s same count v h self (inl d) =
          let i = u.settled.listed y d.0 d.1 in
          let w = slice_get_within order i.0 y i.1 in
          (i.0, omega (arith, w, same, count), order_still i.0 y i.1)
      by y s same count v h self (inr z) =
          let t : y ≡ v.node = only y v z c.1 h in
          absurd (c.2 v h (subst (λ k. Step graph k v.node) self (subst (λ k. Step graph x k) t s)))

  settled_now : IsSettled graph now longer
  settled_now = record { falls = falls; stays = stays; cyclic = cyclic; ranked = ranked; listed = listed; once = once }
    where
      falls : (x r : ℕ) → slice_get now x ≡ Some (Plain r) → (slice_get longer r ≡ Some x) × ((y : ℕ) → Step graph x y → (i : ℕ) × (i < r) × (slice_get longer i ≡ Some y))
      falls x r h = by (m.others x)
        where
          by : (slice_get now x ≡ slice_get marks x) ⊎ IsBetween visits base (length visits) x → (slice_get longer r ≡ Some x) × ((y : ℕ) → Step graph x y → (i : ℕ) × (i < r) × (slice_get longer i ≡ Some y))
          by (inl same) = let f = u.settled.falls x r (sym same ∙ h) in (order_still r x f.0, λ y s. let i = f.1 y s in (i.0, i.1, order_still i.0 y i.2))
          by (inr b) = falls_now mark r x closing (same_Some mark (Plain r) (sym (has_mark x b) ∙ h)) b

      stays : (x r : ℕ) → slice_get now x ≡ Some (Cyclic r) → (y : ℕ) → Step graph x y → (s : ℕ) × Done now y s × (s ≤ r)
      stays x r h y step = by (m.others x)
        where
          of_group : (b : IsBetween visits base (length visits) x) → length order ≡ r → ((s : ℕ) × Done marks y s) ⊎ IsBetween visits base (length visits) y → (s : ℕ) × Done now y s × (s ≤ r)
          of_group b e (inl d) = let l = rank_below y d.0 d.1 in (d.0, done_kept y d.0 d.1, omega (arith, l, e))
          of_group b e (inr z) = (length order, is_done y z, omega (arith, e))

          by : (slice_get now x ≡ slice_get marks x) ⊎ IsBetween visits base (length visits) x → (s : ℕ) × Done now y s × (s ≤ r)
          by (inl same) = let s = u.settled.stays x r (sym same ∙ h) y step in (s.0, done_kept y s.0 s.1, s.2)
          by (inr b) = of_group b (one_rank now x (length order) r (is_done x b) (inr h)) (step_from x y b step)

      cyclic : (x r : ℕ) → slice_get now x ≡ Some (Cyclic r) → Reaches graph x x
      cyclic x r h = by (m.others x)
        where
          of_group : (k : Mark) → IsClosing graph visits base (length order) k → k ≡ Cyclic r → IsBetween visits base (length visits) x → Reaches graph x x
          of_group New c e b = absurd c
          of_group (Open p) c e b = absurd c
          of_group (Plain q) c e b = absurd (let f : Plain q ≡ Cyclic r = e in (cc))
          of_group (Cyclic q) c e b = elim c.1 [
            | inl l ↦ several x b l
            | inr s ↦ elim (cases_lt (base + 1) (length visits)) [
              | inl l ↦ several x b l
              | inr l ↦ subst (λ k. Reaches graph k k) (sym (only x s.0 b l s.1)) (one s.2)
            ]
          ]

          by : (slice_get now x ≡ slice_get marks x) ⊎ IsBetween visits base (length visits) x → Reaches graph x x
          by (inl same) = u.settled.cyclic x r (sym same ∙ h)
          by (inr b) = of_group mark closing (same_Some mark (Cyclic r) (sym (has_mark x b) ∙ h)) b

      ranked : (i x : ℕ) → slice_get longer i ≡ Some x → (r : ℕ) × Done now x r × (r ≤ i)
      ranked i x h = elim (order_was i x h) [
        | inl k ↦ let r = u.settled.ranked i x k in (r.0, done_kept x r.0 r.1, r.2)
        | inr k ↦ (length order, is_done x k.0, omega (arith, k.1))
      ]

      listed : (x r : ℕ) → Done now x r → Has longer x
      listed x r d = by (m.others x) d
        where
          by : (slice_get now x ≡ slice_get marks x) ⊎ IsBetween visits base (length visits) x → Done now x r → Has longer x
          by (inl same) (inl h) = let i = u.settled.listed x r (inl (sym same ∙ h)) in (i.0, order_still i.0 x i.1)
          by (inl same) (inr h) = let i = u.settled.listed x r (inr (sym same ∙ h)) in (i.0, order_still i.0 x i.1)
          by (inr b) h = (length order + (b.place - base), m.placed b.place b.visit b.is b.after b.before ∙ ap Some b.node)

      once : (i j x : ℕ) → slice_get longer i ≡ Some x → slice_get longer j ≡ Some x → i ≡ j
      once i j x hi hj = by (order_was i x hi) (order_was j x hj)
        where
          by : (slice_get order i ≡ Some x) ⊎ ((b : IsBetween visits base (length visits) x) × (i ≡ length order + (b.place - base))) → (slice_get order j ≡ Some x) ⊎ ((b : IsBetween visits base (length visits) x) × (j ≡ length order + (b.place - base))) → i ≡ j
          by (inl a) (inl b) = u.settled.once i j x a b
          by (inl a) (inr b) = absurd (let r = u.settled.ranked i x a in done_not_open marks x r.0 b.0.place r.1 (was_open x b.0))
          by (inr a) (inl b) = absurd (let r = u.settled.ranked j x b in done_not_open marks x r.0 a.0.place r.1 (was_open x a.0))
          by (inr a) (inr b) = let e = same_place marks x a.0.place b.0.place (was_open x a.0) (was_open x b.0) in a.1 ∙ ap (λ p. length order + (p - base)) e ∙ sym b.1

  front : length (take base visits) ≡ base
  front = let w = u.way.within (length path - 1) base top in omega (arith, length-take base visits, w)

  open_now : AreOpen now (take base visits)
  open_now = record {
    opened = λ x p h. let w = open_was x p h in let o = u.open_nodes.opened x p w.0 in (o.0, take_still base visits p o.0 o.1 w.1, o.2);
    visited = λ p v h. let w = take_was base visits p v h in open_kept v.node p (u.open_nodes.visited p v w.0) w.1;
  }

  way_now : IsPath graph (take base visits) (take n path)
  way_now = record {
    rising = front_rising path base n u.way.rising top size;
    within = λ i p h. let b = front_below path base n u.way.rising top size i p h in omega (arith, b.1, front);
    rest = λ p v h l. let w = take_was base visits p v h in front_kept path base n u.way.rising top size p (λ e. omega (arith, e, w.1)) (u.way.rest p v w.0 l);
  }

  parts_now : AreGroups (take base visits) (take n path) (take g groups)
  parts_now = record {
    rising = front_rising groups base g u.parts.rising last group_size;
    begins = λ i b h. let k = front_below groups base g u.parts.rising last group_size i b h in front_kept path base n u.way.rising top size b (λ e. omega (arith, e, k.1)) (u.parts.begins i b k.0);
    covered = λ l. front_kept groups base g u.parts.rising last group_size 0 (λ e. omega (arith, e, l, front)) (u.parts.covered (omega (arith, l, front, u.way.within (length path - 1) base top)));
  }

  links_now : AreLinked graph now (take base visits) (take g groups)
  links_now = record { seen = seen_now; reaches = reaches_now }
    where
      fewer : (p q : ℕ) → NotEarlier groups p q → NotEarlier (take g groups) p q
      fewer p q ne i b h l = ne i b (take_was g groups i b h).0 l

      all : (p q : ℕ) → p < base → NotEarlier (take g groups) p q → NotEarlier groups p q
      all p q w ne i b h l = let k = front_kept groups base g u.parts.rising last group_size b (λ e. omega (arith, e, l, w)) (i, h) in ne k.0 b k.1 l

      seen_still : (p y : ℕ) → Seen marks groups p y → Seen now (take g groups) p y
      seen_still p y (inl d) = inl (d.0, done_kept y d.0 d.1)
      seen_still p y (inr k) = elim (cases_lt k.0 base) [
        | inl l ↦ inr (k.0, open_kept y k.0 k.1 l, fewer p k.0 k.2)
        | inr l ↦ inl (length order, is_done y (moved_at y k.0 k.1 l))
      ]

      seen_now : (p : ℕ) (v : Visit) (e y : ℕ) → slice_get (take base visits) p ≡ Some v → e < v.next → slice_get (successors_of graph v.node) e ≡ Some y → Seen now (take g groups) p y
      seen_now p v e y h l s = seen_still p y (u.links.seen p v e y (take_was base visits p v h).0 l s)

      reaches_now : (p q : ℕ) (v w : Visit) → slice_get (take base visits) p ≡ Some v → slice_get (take base visits) q ≡ Some w → NotEarlier (take g groups) p q → (v.node ≡ w.node) ⊎ Reaches graph v.node w.node
      reaches_now p q v w hp hq ne =
          let a = take_was base visits p v hp in
          let b = take_was base visits q w hq in
          u.links.reaches p q v w a.0 b.0 (all p q a.1 ne)

  -- all holds again once the group is done
  pub closed : IsUnderWay graph now longer (take base visits) (take n path) (take g groups)
  closed = record {
    size = m.size ∙ u.size;
    counted = omega (arith, u.counted, m.length_is, m.news_are, m.size, front);
    settled = settled_now;
    open_nodes = open_now;
    way = way_now;
    parts = parts_now;
    links = links_now;
  }
