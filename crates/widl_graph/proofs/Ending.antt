-- What a search tells where it began and where it ends.
use Rattle.std.proofs.Common.{◌≡◌, inl, inr, ℕ, ◌<◌, ◌≤◌, zero, suc, true, List, [], ◌∷◌, length, map, replicate, slice_get, Some, refl, sym, ap, ◌∙◌, arith}
use Rattle.std.proofs.lemmas.Bool.{cases_lt, false≢true}
use Rattle.std.proofs.lemmas.List.{length-map, length-replicate}
use Rattle.std.specs.Option.{option_map}
use Rattle.std.proofs.lemmas.List.Sums.{sum_by-cons}
use Rattle.std.proofs.lemmas.Option.{slice_get_within, slice_get-map, same_Some, none-some}
use Rattle.widl_graph.specs.declared.search.Mark.{Mark}
use Rattle.widl_graph.specs.declared.search.Mark.TheVariants.{New, Open, Plain, Cyclic}
use Rattle.widl_graph.specs.declared.search.Visit.{Visit}
use Rattle.widl_graph.specs.Order.{IsOrder, StandsBefore}
use Rattle.widl_graph.specs.Reaching.{Step, Reaches, one, more, ReachesItself, TellsCyclic}
use Rattle.widl_graph.specs.Search.{one_new, news, is_cyclic, Done, IsSettled, IsUnderWay}
use Rattle.widl_graph.proofs.Closing.{one_rank}
use Rattle.widl_graph.proofs.Complete.{step_within}
use Rattle.widl_graph.proofs.Gets.{get_some}
use Rattle.widl_graph.proofs.Tops.{none_visited}

module _ (graph : List (List ℕ)) (marks : List Mark) (order : List ℕ) (s : IsSettled graph marks order) where
  -- the rank falls at a step from a plain node
  plain_falls : (x y r : ℕ) → slice_get marks x ≡ Some (Plain r) → Step graph x y → (q : ℕ) × Done marks y q × (q < r)
  plain_falls x y r h step =
      let f = (s.falls x r h).1 y step in
      let k = s.ranked f.0 y f.2 in
      (k.0, k.1, omega (arith, f.1, k.2))

  -- and rises at none
  step_rank : (x y r : ℕ) → Done marks x r → Step graph x y → (q : ℕ) × Done marks y q × (q ≤ r)
  step_rank x y r (inl h) step = let f = plain_falls x y r h step in (f.0, f.1, omega (arith, f.2))
  step_rank x y r (inr h) step = s.stays x r h y step

  reached_rank : {x y : ℕ} → Reaches graph x y → (r : ℕ) → Done marks x r → (q : ℕ) × Done marks y q × (q ≤ r)
  reached_rank (one {x} {y} step) r d = step_rank x y r d step
  reached_rank (more {x} {y} step p) r d =
      let f = step_rank x y r d step in
      let k = reached_rank p f.0 f.1 in
      (k.0, k.1, omega (arith, f.2, k.2))

  leaves : {x y : ℕ} → Reaches graph x y → (r : ℕ) → slice_get marks x ≡ Some (Plain r) → (q : ℕ) × Done marks y q × (q < r)
  leaves (one {x} {y} step) r h = plain_falls x y r h step
  leaves (more {x} {y} step p) r h =
      let f = plain_falls x y r h step in
      let k = reached_rank p f.0 f.1 in
      (k.0, k.1, omega (arith, f.2, k.2))

  -- so a plain node doesn't reach itself
  pub plain_ends : (x r : ℕ) → slice_get marks x ≡ Some (Plain r) → ReachesItself graph x → ⊥
  plain_ends x r h p =
      let k = leaves p r h in
      let e = one_rank marks x k.0 r k.1 (inl h) in
      omega (arith, e, k.2)

-- no mark is new, so none counts
no_news : (marks : List Mark) → ((x : ℕ) → slice_get marks x ≡ Some New → ⊥) → news marks ≡ 0
no_news [] h = refl
no_news (m ∷ marks) h =
    let rest = no_news marks (λ x k. h (suc x) k) in
    let sum = sum_by-cons one_new m marks in
    omega (arith, rest, sum, by m (λ e. h 0 (ap Some e)))
  where
    by : (m : Mark) → (m ≡ New → ⊥) → one_new m ≡ 0
    by New n = absurd (n refl)
    by (Open p) n = refl
    by (Plain r) n = refl
    by (Cyclic r) n = refl

-- a node that reaches something is a node of the graph
reaches_within : {graph : List (List ℕ)} {x y : ℕ} → Reaches graph x y → x < length graph
reaches_within {graph} (one {x} {y} s) = step_within graph x y s
reaches_within {graph} (more {x} {y} s p) = step_within graph x y s

module _ (graph : List (List ℕ)) (marks : List Mark) (order : List ℕ) (visits : List Visit) (path groups : List ℕ) (u : IsUnderWay graph marks order visits path groups) (idle : path ≡ []) (known : (x : ℕ) → slice_get marks x ≡ Some New → length graph ≤ x) where
  none_new : (x : ℕ) → slice_get marks x ≡ Some New → ⊥
  none_new x h = let l = known x h in let w = slice_get_within marks x New h in omega (arith, l, w, u.size)

  none_open : (x p : ℕ) → slice_get marks x ≡ Some (Open p) → ⊥
  none_open x p h = let o = u.open_nodes.opened x p h in none_visited graph marks order visits path groups u idle p o.0 o.1

  -- each node is done
  all_done : (x : ℕ) → x < length graph → (r : ℕ) × Done marks x r
  all_done x l = let m = get_some marks x (omega (arith, l, u.size)) in by m.0 m.1
    where
      by : (m : Mark) → slice_get marks x ≡ Some m → (r : ℕ) × Done marks x r
      by New h = absurd (none_new x h)
      by (Open p) h = absurd (none_open x p h)
      by (Plain r) h = (r, inl h)
      by (Cyclic r) h = (r, inr h)

  no_visits : length visits ≡ 0
  no_visits = elim (cases_lt 0 (length visits)) [
    | inl l ↦ absurd (let v = get_some visits 0 l in none_visited graph marks order visits path groups u idle 0 v.0 v.1)
    | inr l ↦ omega (arith, l)
  ]

  -- the order has each node once
  pub is_order : IsOrder (length graph) order
  is_order = record {
    size = omega (arith, u.counted, u.size, no_visits, no_news marks none_new);
    nodes = λ i x h. let r = u.settled.ranked i x h in elim r.1 [ inl k ↦ (let w = slice_get_within marks x (Plain r.0) k in omega (arith, w, u.size)) | inr k ↦ (let w = slice_get_within marks x (Cyclic r.0) k in omega (arith, w, u.size)) ];
    each = λ x l. let d = all_done x l in u.settled.listed x d.0 d.1;
    once = u.settled.once;
  }

  -- a successor of a node that doesn't reach itself stands before it
  pub stands_before : (x y : ℕ) → (ReachesItself graph x → ⊥) → Step graph x y → StandsBefore order y x
  stands_before x y n s = let d = all_done x (step_within graph x y s) in by d.0 d.1
    where
      by : (r : ℕ) → Done marks x r → StandsBefore order y x
      by r (inl h) =
          let f = u.settled.falls x r h in
          let i = f.1 y s in
          record { earlier = i.0; later = r; first = i.2; second = f.0; before = i.1 }
      by r (inr h) = absurd (n (u.settled.cyclic x r h))

  -- the flags tell which nodes reach themselves
  pub tells_cyclic : TellsCyclic graph (map is_cyclic marks)
  tells_cyclic = record { size = length-map marks is_cyclic ∙ u.size; tells = λ x. (there x, back x) }
    where
      there : (x : ℕ) → slice_get (map is_cyclic marks) x ≡ Some true → ReachesItself graph x
      there x h =
          let l = slice_get_within (map is_cyclic marks) x true h in
          let m = get_some marks x (omega (arith, l, length-map marks is_cyclic)) in
          by m.0 m.1 (same_Some (is_cyclic m.0) true (sym (slice_get-map is_cyclic marks x ∙ ap (λ o. option_map is_cyclic o) m.1) ∙ h))
        where
          by : (m : Mark) → slice_get marks x ≡ Some m → is_cyclic m ≡ true → ReachesItself graph x
          by New k e = absurd (false≢true e)
          by (Open p) k e = absurd (false≢true e)
          by (Plain r) k e = absurd (false≢true e)
          by (Cyclic r) k e = u.settled.cyclic x r k

      back : (x : ℕ) → ReachesItself graph x → slice_get (map is_cyclic marks) x ≡ Some true
      back x p = let d = all_done x (reaches_within p) in by d.0 d.1
        where
          by : (r : ℕ) → Done marks x r → slice_get (map is_cyclic marks) x ≡ Some true
          by r (inl h) = absurd (plain_ends graph marks order u.settled x r h p)
          by r (inr h) = slice_get-map is_cyclic marks x ∙ ap (λ o. option_map is_cyclic o) h

no_item : {X : Type 0} (i : ℕ) (x : X) → slice_get [] i ≡ Some x → ⊥
no_item i x h = none-some x h

of_new : (count x : ℕ) (m : Mark) → slice_get (replicate count New) x ≡ Some m → m ≡ New
of_new zero x m h = absurd (no_item x m h)
of_new (suc count) zero m h = same_Some m New (sym h)
of_new (suc count) (suc x) m h = of_new count x m h

-- all holds at the beginning
pub begun : (graph : List (List ℕ)) (count : ℕ) → count ≡ length graph → IsUnderWay graph (replicate count New) [] [] [] []
begun graph count e = record {
  size = length-replicate count New ∙ e;
  counted = (let a = all_new count in omega (arith, a));
  settled = record {
    falls = λ x r h. absurd (let f = of_new count x (Plain r) h in (cc));
    stays = λ x r h y s. absurd (let f = of_new count x (Cyclic r) h in (cc));
    cyclic = λ x r h. absurd (let f = of_new count x (Cyclic r) h in (cc));
    ranked = λ i x h. absurd (no_item i x h);
    listed = λ x r d. elim d [ inl h ↦ absurd (let f = of_new count x (Plain r) h in (cc)) | inr h ↦ absurd (let f = of_new count x (Cyclic r) h in (cc)) ];
    once = λ i j x h k. absurd (no_item i x h);
  };
  open_nodes = record {
    opened = λ x p h. absurd (let f = of_new count x (Open p) h in (cc));
    visited = λ p v h. absurd (no_item p v h);
  };
  way = record {
    rising = λ i j a b l h k. absurd (no_item i a h);
    within = λ i p h. absurd (no_item i p h);
    rest = λ p v h l. absurd (no_item p v h);
  };
  parts = record {
    rising = λ i j a b l h k. absurd (no_item i a h);
    begins = λ i b h. absurd (no_item i b h);
    covered = λ l. absurd (omega arith);
  };
  links = record {
    seen = λ p v e y h l s. absurd (no_item p v h);
    reaches = λ p q v w h k n. absurd (no_item p v h);
  };
}
  where
    all_new : (count : ℕ) → news (replicate count New) ≡ length (replicate count New)
    all_new zero = refl
    all_new (suc count) = omega (arith, sum_by-cons one_new New (replicate count New), all_new count)
