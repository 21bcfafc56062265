-- A walk that is over has visited each node of a forest.
use Rattle.std.proofs.Common.{◌≡◌, inl, inr, ℕ, zero, suc, ◌+◌, ◌<◌, Bool, true, false, not, List, [], length, slice_get, Option, None, Some, arith, refl, sym, ap, subst, ◌∙◌}
use Rattle.std.specs.Option.{is_some}
use Rattle.std.proofs.lemmas.Bool.{cases_eq}
use Rattle.widl_graph.proofs.ParentSteps.{child_within, up_step}
use Rattle.widl_graph.specs.Reaching.{IsForest}
use Rattle.widl_graph.specs.Search.{Has}
use Rattle.widl_graph.specs.Children.{AreLeft}
use Rattle.widl_graph.specs.Spans.{AreInOrder, AreWhole, parent_graph, parent_in, span_of}
use Rattle.widl_graph.specs.SpanWalks.{IsUnderWay}
use Rattle.widl_graph.specs.declared.span_walk.SpanWalk.{SpanWalk}
use Rattle.widl_graph.specs.declared.spans.Span.{Span}
use Rattle.widl_graph.proofs.ParentChains.{Climbs, climbs_more, few_above}
use Rattle.widl_graph.proofs.PathRooms.{node_below}
use Rattle.widl_graph.proofs.ChildrenTaken.{none_in, parent_within}

module _ (parents : List (Option ℕ)) (spans : List (Option Span)) (order path : List ℕ) (children : List (List ℕ)) (forest : IsForest (parent_graph parents)) (size : length spans ≡ length parents) (in_order : AreInOrder spans order) (left : AreLeft parents order path children) (over : path ≡ []) (roots : (n : ℕ) → n < length parents → parent_in parents n ≡ None → Has order n) where
  -- a child of a node that was visited was visited
  closed : (n p : ℕ) → parent_in parents n ≡ Some p → Has order p → Has order n
  closed n p e h = elim (left.each p n (let below = node_below spans order in_order h.0 p h.1 in omega (arith, below, size)) e) [
    | inl k ↦ k
    | inr k ↦ absurd (let at = left.on_path p n k h in none_in at.0 p (ap (λ xs. slice_get xs at.0) (sym over) ∙ at.1))
  ]

  unvisited : (n : ℕ) → span_of spans n ≡ None → Has order n → ⊥
  unvisited n none h = let own = in_order.each h.0 n h.1 in let f : None ≡ Some own.0 = sym none ∙ own.1 in (cc)

  -- the parent of a node without a span
  record ParentWithout (n : ℕ) : Type 0 where
    pub parent : ℕ
    pub is : parent_in parents n ≡ Some parent
    pub within : parent < length parents
    pub none : span_of spans parent ≡ None

  parent_without : (n : ℕ) → n < length parents → span_of spans n ≡ None → ParentWithout n
  parent_without n below none = by_parent (parent_in parents n) refl
    where
      by_span : (p : ℕ) (o : Option Span) → span_of spans p ≡ o → parent_in parents n ≡ Some p → ParentWithout n
      by_span p None is e = record { parent = p; is = e; within = parent_within parents n p forest.listed e; none = is }
      by_span p (Some s) is e = absurd (unvisited n none (closed n p e (s.start, in_order.listed p s is)))

      by_parent : (o : Option ℕ) → parent_in parents n ≡ o → ParentWithout n
      by_parent None e = absurd (unvisited n none (roots n below e))
      by_parent (Some p) e = by_span p (span_of spans p) refl e

  climbs : (count n : ℕ) → n < length parents → span_of spans n ≡ None → Climbs (parent_in parents) n count
  climbs zero n below none = λ i l. absurd (omega (arith, l))
  climbs (suc count) n below none = let up = parent_without n below none in climbs_more (parent_in parents) n up.parent count up.is (climbs count up.parent up.within up.none)

  too_far : (n : ℕ) → n < length parents → span_of spans n ≡ None → ⊥
  too_far n below none =
      let most = few_above (parent_in parents) (parent_graph parents) forest.acyclic (up_step (λ p. p) parents) (length parents) (child_within (λ p. p) parents) n (suc (length parents)) (climbs (suc (length parents)) n below none) in
      omega (arith, most)

  pub all_spanned : AreWhole spans
  all_spanned n below = by_span (span_of spans n) refl
    where
      by_span : (o : Option Span) → span_of spans n ≡ o → (s : Span) × (span_of spans n ≡ Some s)
      by_span None is = absurd (too_far n (omega (arith, below, size)) is)
      by_span (Some s) is = (s, is)

-- the first so many nodes without a parent were visited, with all that come from them
pub record AreVisited (parents : List (Option ℕ)) (walk : SpanWalk) (count : ℕ) : Type 0 where
  pub under_way : IsUnderWay parents walk
  pub idle : walk.path.items ≡ []
  pub roots : (n : ℕ) → n < count → parent_in parents n ≡ None → Has walk.order.items n

-- one node more
pub visited_more : (parents : List (Option ℕ)) (walk later : SpanWalk) (count : ℕ) → IsUnderWay parents later → later.path.items ≡ [] → ((n : ℕ) → Has walk.order.items n → Has later.order.items n) → (parent_in parents count ≡ None → Has later.order.items count) → AreVisited parents walk count → AreVisited parents later (count + 1)
visited_more parents walk later count under_way idle kept root v = record {
  under_way = under_way;
  idle = idle;
  roots = λ n below none. elim (cases_eq n count) [
    | inl same ↦ subst (Has later.order.items) (sym same) (root (ap (parent_in parents) (sym same) ∙ none))
    | inr other ↦ kept n (v.roots n (omega (arith, below, other)) none)
  ];
}

pub lacks_one : (o : Option ℕ) (b : Bool) → is_some o ≡ not b → b ≡ true → o ≡ None
lacks_one None b is e = refl
lacks_one (Some p) b is e = absurd (let f : true ≡ false = is ∙ ap not e in (cc))

pub has_one : (o : Option ℕ) (b : Bool) → is_some o ≡ not b → b ≡ false → o ≡ None → ⊥
has_one o b is e none = let f : false ≡ true = sym (ap is_some none) ∙ is ∙ ap not e in (cc)
