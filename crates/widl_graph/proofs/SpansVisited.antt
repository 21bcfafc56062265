-- A walk over nodes: its begin, a node that is entered, and one that is left.
use Rattle.std.proofs.Common.{◌≡◌, ◌≢◌, inl, inr, ℕ, ◌+◌, ◌-◌, ◌<◌, ◌≤◌, ◌++◌, List, [], ◌∷◌, length, set, get_or, slice_get, Option, None, Some, arith, refl, sym, ap, subst, ◌∙◌}
use Rattle.std.proofs.lemmas.List.{length_push}
use Rattle.std.proofs.Math.ListN.{length-set}
use Rattle.std.proofs.lemmas.Option.{same_Some, slice_get_read}
use Rattle.widl_graph.proofs.Gets.{push_cases, push_last, push_old}
use Rattle.widl_graph.specs.Spans.{AreInOrder, IsPath, IsWalk, parent_in, span_of}
use Rattle.widl_graph.specs.declared.spans.Span.{Span}
use Rattle.widl_graph.proofs.SpansOpened.{span_cases, span_other, span_same, unnested, walk_begun, walk_entered}
use Rattle.widl_graph.proofs.SpansClosed.{at_end, becomes, in_bounds, was, walk_popped}

pub begun : (parents : List (Option ℕ)) (spans : List (Option Span)) → length spans ≡ length parents → ((n : ℕ) → span_of spans n ≡ None) → IsWalk parents spans [] []
begun parents spans size none = record {
  size = size;
  in_order = record {
    listed = λ n s is. absurd (let f : None ≡ Some s = sym (none n) ∙ is in (cc));
    each = λ place n at. absurd (let f : None ≡ Some n = at in (cc));
  };
  on_path = walk_begun parents spans none;
}

module _ (parents : List (Option ℕ)) (spans : List (Option Span)) (order path : List ℕ) (v : ℕ) (w : IsWalk parents spans order path) (within : length order < length parents) (below : v < length spans) (new : span_of spans v ≡ None) (last : parent_in parents v ≡ slice_get path (length path - 1)) where
  abbrev added : Span
  added = record { start = length order; past = length parents }

  abbrev now : List (Option Span)
  now = set spans v (Some added)

  start_is : (s : Span) → Some added ≡ Some s → s.start ≡ length order
  start_is s e = ap (λ (x : Span). x.start) (sym (same_Some added s e))

  now_listed : (n : ℕ) (s : Span) → span_of now n ≡ Some s → slice_get (order ++ v ∷ []) s.start ≡ Some n
  now_listed n s is = elim (span_cases spans v n (Some added) s is) [
    | inl k ↦ push_old order v n s.start (w.in_order.listed n s k.1)
    | inr k ↦ ap (slice_get (order ++ v ∷ [])) (start_is s k.1) ∙ push_last order v ∙ ap Some (sym k.0)
  ]

  other : (n : ℕ) (s : Span) → span_of spans n ≡ Some s → n ≢ v
  other n s is same = let f : None ≡ Some s = sym new ∙ ap (span_of spans) (sym same) ∙ is in (cc)

  now_each : (place n : ℕ) → slice_get (order ++ v ∷ []) place ≡ Some n → (s : Span) × (span_of now n ≡ Some s) × (s.start ≡ place)
  now_each place n at = elim (push_cases order v n place at) [
    | inl k ↦ let old = w.in_order.each place n k in (old.0, span_other spans v n (Some added) (other n old.0 old.1) ∙ old.1, old.2)
    | inr k ↦ (added, ap (span_of now) k.1 ∙ span_same spans v (Some added) below, sym k.0)
  ]

  longer : length order + 1 ≡ length (order ++ v ∷ [])
  longer = omega (arith, length_push order v)

  pub entered : IsWalk parents now (order ++ v ∷ []) (path ++ v ∷ [])
  entered = record {
    size = length-set spans v (Some added) ∙ w.size;
    in_order = record { listed = now_listed; each = now_each };
    on_path = subst (IsPath parents now (path ++ v ∷ [])) longer (walk_entered parents spans path (length order) v w.on_path within below new last);
  }

-- the order stays where no start changes
starts_kept : (spans later : List (Option Span)) (order : List ℕ) → ((a : ℕ) (s : Span) → span_of later a ≡ Some s → (o : Span) × (span_of spans a ≡ Some o) × (s.start ≡ o.start)) → ((a : ℕ) (o : Span) → span_of spans a ≡ Some o → (s : Span) × (span_of later a ≡ Some s) × (s.start ≡ o.start)) → AreInOrder spans order → AreInOrder later order
starts_kept spans later order old new h = record {
  listed = λ n s is. let o = old n s is in ap (slice_get order) o.2 ∙ h.listed n o.0 o.1;
  each = λ place n at. let o = h.each place n at in let s = new n o.0 o.1 in (s.0, s.1, s.2 ∙ o.2);
}

module _ (parents : List (Option ℕ)) (spans : List (Option Span)) (order path rest : List ℕ) (v : ℕ) (w : IsWalk parents spans order path) (within : length order ≤ length parents) (popped : path ≡ rest ++ v ∷ []) where
  bound : v < length spans
  bound = in_bounds parents spans path rest (length order) v w.on_path within popped

  last_is : slice_get path (length path - 1) ≡ Some v
  last_is = at_end parents spans path rest (length order) v w.on_path within popped

  left_order : (ended : Option Span) (old : Span) → span_of spans v ≡ Some old → ended ≡ Some (record { start = old.start; past = length order }) → AreInOrder (set spans v ended) order
  left_order ended old old_is e =
      subst (λ x. AreInOrder (set spans v x) order) (sym e)
      (starts_kept spans (set spans v (Some (record { start = old.start; past = length order }))) order
      (λ a s is. let x = was parents spans path (length order) v old w.on_path within bound last_is old_is a s is in (x.0, x.1, x.2))
      (λ a o is. let x = becomes parents spans path (length order) v old w.on_path within bound last_is old_is a o is in (x.0, x.1, x.2))
      w.in_order)

  pub left : (o ended : Option Span) → o ≡ get_or spans v o → ((s : Span) → o ≡ Some s → ended ≡ Some (record { start = s.start; past = length order })) → IsWalk parents (set spans v ended) order rest
  left o ended read closed =
      let one = w.on_path.lasting (length path - 1) v last_is in
      let o_is : o ≡ Some one.0 = sym (ap unnested (slice_get_read spans (length spans) v o refl bound read)) ∙ one.1 in
      record {
        size = length-set spans v ended ∙ w.size;
        in_order = left_order ended one.0 one.1 (closed one.0 o_is);
        on_path = walk_popped parents spans path rest (length order) v w.on_path within popped o ended read closed;
      }
