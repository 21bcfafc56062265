-- A walk over nodes has room for each node that it has not visited yet.
use Rattle.std.proofs.Common.{◌≡◌, inl, inr, ℕ, ◌<◌, ◌≤◌, ◌++◌, List, [], ◌∷◌, length, get_or, slice_get, Option, None, Some, arith, refl, sym, ap, ◌∙◌}
use Rattle.std.proofs.lemmas.List.{length_push}
use Rattle.std.proofs.lemmas.Option.{same_Some, slice_get-get_or, slice_get_within}
use Rattle.widl_graph.proofs.Pigeonhole.{pigeonhole}
use Rattle.widl_graph.specs.Search.{Has}
use Rattle.widl_graph.proofs.Gets.{push_cases}
use Rattle.widl_graph.specs.Spans.{AreInOrder, IsPath, span_of}
use Rattle.widl_graph.specs.declared.spans.Span.{Span}
use Rattle.widl_graph.proofs.SpansOpened.{read_span}

-- a list in which each number is below a bound and none stands twice is no longer than the bound
few_numbers : (bound : ℕ) (xs : List ℕ) → ((i x : ℕ) → slice_get xs i ≡ Some x → x < bound) → ((i j x : ℕ) → slice_get xs i ≡ Some x → slice_get xs j ≡ Some x → i ≡ j) → length xs ≤ bound
few_numbers bound xs below once =
    pigeonhole (length xs) bound (λ i. get_or xs i 0)
    (λ i l. below i (get_or xs i 0) (slice_get-get_or xs i 0 l))
    (λ i j l m e. once i j (get_or xs i 0) (slice_get-get_or xs i 0 l) (slice_get-get_or xs j 0 m ∙ ap Some (sym e)))

module _ (spans : List (Option Span)) (order : List ℕ) (in_order : AreInOrder spans order) where
  -- what was visited is a node
  pub node_below : (i n : ℕ) → slice_get order i ≡ Some n → n < length spans
  node_below i n at = let own = in_order.each i n at in slice_get_within spans n (Some own.0) (read_span (slice_get spans n) own.0 own.1)

  once : (i j n : ℕ) → slice_get order i ≡ Some n → slice_get order j ≡ Some n → i ≡ j
  once i j n i_at j_at =
      let a = in_order.each i n i_at in
      let b = in_order.each j n j_at in
      let same : a.0 ≡ b.0 = same_Some a.0 b.0 (sym a.1 ∙ b.1) in
      sym a.2 ∙ ap (λ (s : Span). s.start) same ∙ b.2

  -- no more were visited than there are
  pub visited_most : length order ≤ length spans
  visited_most = few_numbers (length spans) order node_below once

  -- what has a span was visited
  pub seen : (n : ℕ) → (span_of spans n ≡ None → ⊥) → Has order n
  seen n some = by_span (span_of spans n) refl
    where
      by_span : (o : Option Span) → span_of spans n ≡ o → Has order n
      by_span None is = absurd (some is)
      by_span (Some s) is = (s.start, in_order.listed n s is)

  module _ (v : ℕ) (below : v < length spans) (new : span_of spans v ≡ None) where
    unseen : (i n : ℕ) → slice_get order i ≡ Some n → n ≡ v → ⊥
    unseen i n at same = let own = in_order.each i n at in let f : None ≡ Some own.0 = sym new ∙ ap (span_of spans) (sym same) ∙ own.1 in (cc)

    node_below_now : (i n : ℕ) → slice_get (order ++ v ∷ []) i ≡ Some n → n < length spans
    node_below_now i n at = elim (push_cases order v n i at) [ inl k ↦ node_below i n k | inr k ↦ omega (arith, below, k.1) ]

    once_now : (i j n : ℕ) → slice_get (order ++ v ∷ []) i ≡ Some n → slice_get (order ++ v ∷ []) j ≡ Some n → i ≡ j
    once_now i j n i_at j_at = elim (push_cases order v n i i_at) [
      | inl k ↦ elim (push_cases order v n j j_at) [ inl l ↦ once i j n k l | inr l ↦ absurd (unseen i n k l.1) ]
      | inr k ↦ elim (push_cases order v n j j_at) [ inl l ↦ absurd (unseen j n l k.1) | inr l ↦ k.0 ∙ sym l.0 ]
    ]

    -- fewer, where one was not visited yet
    pub room_left : length order < length spans
    room_left = omega (arith, few_numbers (length spans) (order ++ v ∷ []) node_below_now once_now, length_push order v)

-- a node on the path is one of the nodes
pub path_below : (parents : List (Option ℕ)) (spans : List (Option Span)) (path : List ℕ) (place i n : ℕ) → IsPath parents spans path place → slice_get path i ≡ Some n → n < length spans
path_below parents spans path place i n w at = let own = w.lasting i n at in slice_get_within spans n (Some own.0) (read_span (slice_get spans n) own.0 own.1)
