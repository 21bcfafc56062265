-- The children of the nodes of a forest: listed, and taken one after another by a walk over the nodes.
use Rattle.std.proofs.Common.{◌≡◌, ◌≢◌, ◌⊎◌, inl, inr, ℕ, zero, suc, ◌+◌, ◌<◌, ◌++◌, List, [], ◌∷◌, length, map, set, get_or, replicate, slice_get, option_and_then, Option, None, Some, option_to_list, MatchOption, Result, Ok, Err, OnOk, arith, refl, sym, ap, subst, ◌∙◌, vec_items}
use Rattle.std.specs.Global.{Vec}
use Rattle.std.specs.List.{sum_by}
use Rattle.std.proofs.lemmas.Bool.{cases_eq, cases_lt}
use Rattle.std.proofs.lemmas.List.{append-nil, get_or-map, get_or-set_other, get_or-set_same, length-map, length-replicate, length-set, length_push, map-set, nil_from_length, set_past}
use Rattle.std.proofs.lemmas.List.Sums.{sum_by-set}
use Rattle.std.proofs.lemmas.Option.{same_Some, slice_get-get_or}
use Rattle.std.proofs.Math.Seq.{map-set_same}
use Rattle.widl_graph.proofs.ParentSteps.{child_within, up_step}
use Rattle.widl_graph.specs.Reaching.{AreNodes, successors_of}
use Rattle.widl_graph.specs.Search.{Has}
use Rattle.widl_graph.proofs.Gets.{push_cases, push_last, push_old}
use Rattle.widl_graph.specs.Children.{AreChildren, AreLeft, IsAdded, IsTaken, IsVisited}
use Rattle.widl_graph.specs.Spans.{parent_graph, parent_in}

pub none_in : (i n : ℕ) → slice_get [] i ≡ Some n → ⊥
none_in i n at = let f : None ≡ Some n = at in (cc)

-- a parent is one of the nodes
pub parent_within : (parents : List (Option ℕ)) (n p : ℕ) → AreNodes (parent_graph parents) → parent_in parents n ≡ Some p → p < length parents
parent_within parents n p nodes e = let below = nodes.below n p (up_step (λ p. p) parents n p e) in omega (arith, below, length-map parents (λ (o : Option ℕ). option_to_list o))

pub parent_read : (parents : List (Option ℕ)) (n : ℕ) (o : Option ℕ) → n < length parents → get_or parents n None ≡ o → parent_in parents n ≡ o
parent_read parents n o below is = ap (option_and_then (λ p. p)) (slice_get-get_or parents n None below) ∙ is

empty_lists : (count p : ℕ) → successors_of (replicate count []) p ≡ []
empty_lists zero p = refl
empty_lists (suc count) zero = refl
empty_lists (suc count) (suc p) = empty_lists count p

-- no child is listed yet
pub none_listed : (parents : List (Option ℕ)) (children : List (List ℕ)) → children ≡ replicate (length parents) [] → AreChildren parents 0 children
none_listed parents children is = record {
  size = ap length is ∙ length-replicate (length parents) [];
  own = λ p n h. absurd (none_in h.0 n (ap (λ xs. slice_get xs h.0) (sym (ap (λ l. successors_of l p) is ∙ empty_lists (length parents) p)) ∙ h.1));
  each = λ p n within below. absurd (omega (arith, below));
}

-- a node without a parent is in no list
pub none_added : (parents : List (Option ℕ)) (i : ℕ) (children : List (List ℕ)) → ((p : ℕ) → parent_in parents i ≡ Some p → ⊥) → AreChildren parents i children → AreChildren parents (i + 1) children
none_added parents i children lacks a = record {
  size = a.size;
  own = a.own;
  each = λ p n within below e. elim (cases_eq n i) [
    | inl same ↦ absurd (lacks p (ap (parent_in parents) (sym same) ∙ e))
    | inr other ↦ a.each p n within (omega (arith, below, other)) e
  ];
}

-- a list is written in place of that of a node
module _ (old new : List (List ℕ)) (p : ℕ) (xs : List ℕ) (below : p < length old) (is : new ≡ set old p xs) where
  list_there : (q n : ℕ) → q ≡ p → Has (successors_of new q) n → Has xs n
  list_there q n e h = (h.0, ap (λ ys. slice_get ys h.0) (sym (ap (successors_of new) e ∙ ap (λ l. successors_of l p) is ∙ get_or-set_same old p xs [] below)) ∙ h.1)

  there_list : (q n : ℕ) → q ≡ p → Has xs n → Has (successors_of new q) n
  there_list q n e h = (h.0, ap (λ ys. slice_get ys h.0) (ap (successors_of new) e ∙ ap (λ l. successors_of l p) is ∙ get_or-set_same old p xs [] below) ∙ h.1)

  elsewhere : (q : ℕ) → q ≢ p → successors_of new q ≡ successors_of old q
  elsewhere q other = ap (λ l. successors_of l q) is ∙ get_or-set_other old p q xs [] other

  list_elsewhere : (q n : ℕ) → q ≢ p → Has (successors_of new q) n → Has (successors_of old q) n
  list_elsewhere q n other h = (h.0, ap (λ ys. slice_get ys h.0) (sym (elsewhere q other)) ∙ h.1)

  elsewhere_list : (q n : ℕ) → q ≢ p → Has (successors_of old q) n → Has (successors_of new q) n
  elsewhere_list q n other h = (h.0, ap (λ ys. slice_get ys h.0) (elsewhere q other) ∙ h.1)

  as_long : length new ≡ length old
  as_long = ap length is ∙ length-set old p xs

-- one child more
module _ (parents : List (Option ℕ)) (i p : ℕ) (old new : List (List ℕ)) (up : parent_in parents i ≡ Some p) (below : p < length old) (added : IsAdded old new p i) (a : AreChildren parents i old) where
  abbrev longer : List ℕ
  longer = successors_of old p ++ i ∷ []

  own_now : (q n : ℕ) → Has (successors_of new q) n → parent_in parents n ≡ Some q
  own_now q n h = elim (cases_eq q p) [
    | inl e ↦ let there = list_there old new p longer below added q n e h in
        elim (push_cases (successors_of old p) i n there.0 there.1) [ inl k ↦ a.own p n (there.0, k) ∙ ap Some (sym e) | inr k ↦ ap (parent_in parents) k.1 ∙ up ∙ ap Some (sym e) ]
    | inr other ↦ a.own q n (list_elsewhere old new p longer below added q n other h)
  ]

  kept_now : (q n : ℕ) → Has (successors_of old q) n → Has (successors_of new q) n
  kept_now q n h = elim (cases_eq q p) [
    | inl e ↦ there_list old new p longer below added q n e (h.0, push_old (successors_of old p) i n h.0 (ap (λ r. slice_get (successors_of old r) h.0) (sym e) ∙ h.1))
    | inr other ↦ elsewhere_list old new p longer below added q n other h
  ]

  each_now : (q n : ℕ) → q < length parents → n < i + 1 → parent_in parents n ≡ Some q → Has (successors_of new q) n
  each_now q n within l e = elim (cases_eq n i) [
    | inl same ↦ let one : q ≡ p = same_Some q p (sym e ∙ ap (parent_in parents) same ∙ up) in
        there_list old new p longer below added q n one (length (successors_of old p), push_last (successors_of old p) i ∙ ap Some (sym same))
    | inr other ↦ kept_now q n (a.each q n within (omega (arith, l, other)) e)
  ]

  added_there : AreChildren parents (i + 1) new
  added_there = record { size = as_long old new p longer below added ∙ a.size; own = own_now; each = each_now }

pub one_added : (parents : List (Option ℕ)) (i p : ℕ) (old new : List (List ℕ)) → parent_in parents i ≡ Some p → IsAdded old new p i → AreChildren parents i old → AreChildren parents (i + 1) new
one_added parents i p old new up added a = elim (cases_lt p (length old)) [
  | inl l ↦ added_there parents i p old new up l added a
  | inr l ↦ subst (AreChildren parents (i + 1)) (sym (added ∙ set_past old p (successors_of old p ++ i ∷ []) l)) (record {
    size = a.size;
    own = a.own;
    each = λ q n within below e. elim (cases_eq n i) [
      | inl same ↦ absurd (let one : q ≡ p = same_Some q p (sym e ∙ ap (parent_in parents) same ∙ up) in omega (arith, one, within, l, a.size))
      | inr other ↦ a.each q n within (omega (arith, below, other)) e
    ];
  })
]

-- before the first visit all children are left
pub all_left : (parents : List (Option ℕ)) (children : List (List ℕ)) → AreChildren parents (length parents) children → AreLeft parents [] [] children
all_left parents children a = record {
  size = a.size;
  own = a.own;
  each = λ p n within e. inr (a.each p n within (child_within (λ p. p) parents n p e) e);
  on_path = λ p n h o. absurd (none_in o.0 p o.1);
}

module _ (parents : List (Option ℕ)) (order path : List ℕ) (children : List (List ℕ)) where
  -- one more node was visited
  left_entered : (v : ℕ) → AreLeft parents order path children → AreLeft parents (order ++ v ∷ []) (path ++ v ∷ []) children
  left_entered v l = record {
    size = l.size;
    own = l.own;
    each = λ p n within e. elim (l.each p n within e) [ inl h ↦ inl (h.0, push_old order v n h.0 h.1) | inr h ↦ inr h ];
    on_path = λ p n h o. elim (push_cases order v p o.0 o.1) [
      | inl k ↦ let m = l.on_path p n h (o.0, k) in (m.0, push_old path v p m.0 m.1)
      | inr k ↦ (length path, push_last path v ∙ ap Some (sym k.1))
    ];
  }

  pub left_visited : (new_order new_path : List ℕ) (v : ℕ) → IsVisited order path new_order new_path v → AreLeft parents order path children → AreLeft parents new_order new_path children
  left_visited new_order new_path v (inl k) l = subst (λ o. AreLeft parents o new_path children) (sym k.1) (subst (λ p. AreLeft parents order p children) (sym k.2) l)
  left_visited new_order new_path v (inr k) l = subst (λ o. AreLeft parents o new_path children) (sym k.0) (subst (λ p. AreLeft parents (order ++ v ∷ []) p children) (sym k.1) (left_entered v l))

  -- a node that was visited is taken off the list of its parent
  module _ (new : List (List ℕ)) (p c : ℕ) (below : p < length children) (t : IsTaken children new p (Some c)) (l : AreLeft parents order path children) where
    listed_before : (q n : ℕ) → Has (successors_of new q) n → Has (successors_of children q) n
    listed_before q n h = elim (cases_eq q p) [
      | inl e ↦ let there = list_there children new p t.0 below t.2 q n e h in
          (there.0, ap (λ r. slice_get (successors_of children r) there.0) e ∙ ap (λ xs. slice_get xs there.0) t.1 ∙ push_old t.0 c n there.0 there.1)
      | inr other ↦ list_elsewhere children new p t.0 below t.2 q n other h
    ]

    still_listed : (q n : ℕ) → Has order c → Has (successors_of children q) n → Has order n ⊎ Has (successors_of new q) n
    still_listed q n seen h = elim (cases_eq q p) [
      | inl e ↦ elim (push_cases t.0 c n h.0 (ap (λ xs. slice_get xs h.0) (sym (ap (successors_of children) e ∙ t.1)) ∙ h.1)) [
        | inl k ↦ inr (there_list children new p t.0 below t.2 q n e (h.0, k))
        | inr k ↦ inl (seen.0, seen.1 ∙ ap Some (sym k.1))
      ]
      | inr other ↦ inr (elsewhere_list children new p t.0 below t.2 q n other h)
    ]

    pub left_taken : Has order c → AreLeft parents order path new
    left_taken seen = record {
      size = as_long children new p t.0 below t.2 ∙ l.size;
      own = λ q n h. l.own q n (listed_before q n h);
      each = λ q n within e. elim (l.each q n within e) [ inl h ↦ inl h | inr h ↦ still_listed q n seen h ];
      on_path = λ q n h o. l.on_path q n (listed_before q n h) o;
    }

-- the last node of the path has no child left, and is left
pub left_behind : (parents : List (Option ℕ)) (order path : List ℕ) (children : List (List ℕ)) (v : ℕ) → successors_of children v ≡ [] → AreLeft parents order (path ++ v ∷ []) children → AreLeft parents order path children
left_behind parents order path children v none l = record {
  size = l.size;
  own = l.own;
  each = l.each;
  on_path = λ p n h o. let m = l.on_path p n h o in
      elim (push_cases path v p m.0 m.1) [
        | inl k ↦ (m.0, k)
        | inr k ↦ absurd (none_in h.0 n (ap (λ xs. slice_get xs h.0) (sym (ap (successors_of children) k.1 ∙ none)) ∙ h.1))
      ];
}

-- the child that is taken, and that one fewer is left
pub taken_child : (old new : List (List ℕ)) (p c : ℕ) → IsTaken old new p (Some c) → Has (successors_of old p) c
taken_child old new p c t = (length t.0, ap (λ xs. slice_get xs (length t.0)) t.1 ∙ push_last t.0 c)

pub taken_fewer : (old new : List (List ℕ)) (p c : ℕ) → p < length old → IsTaken old new p (Some c) → sum_by length new + 1 ≡ sum_by length old
taken_fewer old new p c below t =
    let fewer = sum_by-set length old p t.0 [] below in
    let one : length (successors_of old p) ≡ length t.0 + 1 = ap length t.1 ∙ length_push t.0 c in
    let is : sum_by length new ≡ sum_by length (set old p t.0) = ap (sum_by length) t.2 in
    omega (arith, fewer, one, is)

-- what a visit keeps and adds
pub visited_kept : (order path new_order new_path : List ℕ) (v n : ℕ) → IsVisited order path new_order new_path v → Has order n → Has new_order n
visited_kept order path new_order new_path v n (inl k) h = (h.0, ap (λ xs. slice_get xs h.0) k.1 ∙ h.1)
visited_kept order path new_order new_path v n (inr k) h = (h.0, ap (λ xs. slice_get xs h.0) k.0 ∙ push_old order v n h.0 h.1)

pub visited_there : (order path new_order new_path : List ℕ) (v : ℕ) → IsVisited order path new_order new_path v → Has new_order v
visited_there order path new_order new_path v (inl k) = (k.0.0, ap (λ xs. slice_get xs k.0.0) k.1 ∙ k.0.1)
visited_there order path new_order new_path v (inr k) = (length order, ap (λ xs. slice_get xs (length order)) k.0 ∙ push_last order v)

pub visited_path : (order path new_order new_path : List ℕ) (v : ℕ) → IsVisited order path new_order new_path v → length new_path < length path + 2
visited_path order path new_order new_path v (inl k) = let e = ap length k.2 in omega (arith, e)
visited_path order path new_order new_path v (inr k) = let e = ap length k.1 ∙ length_push path v in omega (arith, e)

-- the lists as they are kept: a child is added, or taken
module _ (lists : List (Vec ℕ)) (p : ℕ) (old new : Vec ℕ) (below : p < length lists) (is : old ≡ get_or lists p old) where
  list_is : successors_of (map vec_items lists) p ≡ old.items
  list_is = get_or-map vec_items lists p old [] below ∙ ap vec_items (sym is)

  pub kept_added : (n : ℕ) → new.items ≡ old.items ++ n ∷ [] → IsAdded (map vec_items lists) (map vec_items (set lists p new)) p n
  kept_added n added = map-set vec_items lists p new ∙ ap (set (map vec_items lists) p) (added ∙ ap (λ xs. xs ++ n ∷ []) (sym list_is))

  pub kept_taken : (result : Option ℕ) → old.items ≡ new.items ++ option_to_list result → MatchOption result ((old.len ≡ 0) × (new.len ≡ 0)) (λ _. new.len + 1 ≡ old.len) → IsTaken (map vec_items lists) (map vec_items (set lists p new)) p result
  kept_taken None rest none =
      (list_is ∙ nil_from_length old.items (omega (arith, old.ok.0, none.0)), map-set_same vec_items lists p new old (sym (rest ∙ append-nil new.items) ∙ ap vec_items is))
  kept_taken (Some c) rest some = (new.items, list_is ∙ rest, map-set vec_items lists p new)

-- what holds after a success, from two such facts
pub both_ok : {T E P Q R : Type 0} (r : Result T E) → (P → Q → R) → OnOk r P → OnOk r Q → OnOk r R
both_ok (Ok x) f p q = f p q
both_ok (Err e) f p q = tt
