-- A walk over nodes leaves the last one on its path.
use Rattle.std.proofs.Common.{◌≡◌, ◌≢◌, ◌⊎◌, inl, inr, ℕ, suc, ◌-◌, ◌<◌, ◌≤◌, ◌++◌, List, [], ◌∷◌, length, set, take, get_or, slice_get, Option, Some, arith, refl, sym, ap, subst, ◌∙◌}
use Rattle.std.proofs.lemmas.Bool.{cases_eq, cases_lt}
use Rattle.std.proofs.lemmas.List.{length_push}
use Rattle.std.proofs.Math.Seq.{take-append_seam}
use Rattle.std.proofs.lemmas.Option.{same_Some, slice_get_read, slice_get_within}
use Rattle.widl_graph.proofs.Gets.{push_last, take_still, take_was}
use Rattle.widl_graph.specs.Spans.{IsPath, parent_in, span_of}
use Rattle.widl_graph.specs.declared.spans.Span.{Span}
use Rattle.widl_graph.proofs.SpansOpened.{read_span, span_cases, span_other, span_same, unnested}

module _ (parents : List (Option ℕ)) (spans : List (Option Span)) (path : List ℕ) (place v : ℕ) (old : Span) (w : IsPath parents spans path place) (within : place ≤ length parents) (below : v < length spans) (last : slice_get path (length path - 1) ≡ Some v) (old_is : span_of spans v ≡ Some old) where
  abbrev left : Span
  left = record { start = old.start; past = place }

  abbrev now : List (Option Span)
  now = set spans v (Some left)

  lasts : old.past ≡ length parents
  lasts = let one = w.lasting (length path - 1) v last in ap (λ (x : Span). x.past) (same_Some old one.0 (sym old_is ∙ one.1)) ∙ one.2

  starts : (s : Span) → Some left ≡ Some s → s.start ≡ old.start
  starts s e = ap (λ (x : Span). x.start) (sym (same_Some left s e))

  ends : (s : Span) → Some left ≡ Some s → s.past ≡ place
  ends s e = ap (λ (x : Span). x.past) (sym (same_Some left s e))

  -- the span before, which began at the same place and was no shorter
  pub was : (a : ℕ) (s : Span) → span_of now a ≡ Some s → (o : Span) × (span_of spans a ≡ Some o) × (s.start ≡ o.start) × (s.past ≤ o.past)
  was a s is = elim (span_cases spans v a (Some left) s is) [
    | inl k ↦ (s, k.1, refl, omega arith)
    | inr k ↦ (old, ap (span_of spans) k.0 ∙ old_is, starts s k.1, omega (arith, ends s k.1, lasts))
  ]

  -- the span now, which is the same but for that of the one that is left
  pub becomes : (a : ℕ) (o : Span) → span_of spans a ≡ Some o → (s : Span) × (span_of now a ≡ Some s) × (s.start ≡ o.start) × (((a ≢ v) × (s.past ≡ o.past)) ⊎ ((a ≡ v) × (s.past ≡ place)))
  becomes a o is = elim (cases_eq a v) [
    | inl e ↦ (left, ap (span_of now) e ∙ span_same spans v (Some left) below, ap (λ (x : Span). x.start) (same_Some old o (sym old_is ∙ ap (span_of spans) (sym e) ∙ is)), inr (e, refl))
    | inr n ↦ (o, span_other spans v a (Some left) n ∙ is, refl, inl (n, refl))
  ]

  -- what comes from the one that is left is past
  child_past : (a : ℕ) (o : Span) → span_of spans a ≡ Some o → old.start < o.start → o.past ≤ place
  child_past a o is after = elim (w.passed a o is) [
    | inl k ↦ let inside = slice_get_within path k.0 a k.1 in
        elim (cases_lt k.0 (length path - 1)) [
          | inl l ↦ absurd (omega (arith, w.rising k.0 (length path - 1) a v o old l k.1 last is old_is))
          | inr l ↦ let here : k.0 ≡ length path - 1 = omega arith in
              let one : a ≡ v = same_Some a v (sym k.1 ∙ ap (slice_get path) here ∙ last) in
              absurd (omega (arith, ap (λ (x : Span). x.start) (same_Some o old (sym is ∙ ap (span_of spans) one ∙ old_is))))
        ]
    | inr k ↦ k
  ]

  now_bounded : (a : ℕ) (s : Span) → span_of now a ≡ Some s → (s.start < s.past) × (s.past ≤ length parents)
  now_bounded a s is = elim (span_cases spans v a (Some left) s is) [
    | inl k ↦ w.nested.bounded a s k.1
    | inr k ↦ (omega (arith, starts s k.1, ends s k.1, w.begun v old old_is), omega (arith, ends s k.1))
  ]

  now_single : (a b : ℕ) (s t : Span) → span_of now a ≡ Some s → span_of now b ≡ Some t → s.start ≡ t.start → a ≡ b
  now_single a b s t a_is b_is same =
      let x = was a s a_is in
      let y = was b t b_is in
      w.nested.single a b x.0 y.0 x.1 y.1 (sym x.2 ∙ same ∙ y.2)

  now_nested : (a p : ℕ) (s : Span) → span_of now a ≡ Some s → parent_in parents a ≡ Some p → (q : Span) × (span_of now p ≡ Some q) × (q.start < s.start) × (s.past ≤ q.past)
  now_nested a p s a_is up =
      let x = was a s a_is in
      let y = w.nested.nested a p x.0 x.1 up in
      let z = becomes p y.0 y.1 in (
        z.0,
        z.1,
        omega (arith, x.2, y.2, z.2),
        elim z.3 [
          | inl k ↦ omega (arith, x.3, y.3, k.1)
          | inr k ↦ let parent : y.0 ≡ old = same_Some y.0 old (sym y.1 ∙ ap (span_of spans) k.0 ∙ old_is) in
              omega (arith, x.3, k.1, child_past a x.0 x.1 (omega (arith, y.2, ap (λ (r : Span). r.start) parent)))
        ],
      )

  now_inside : (a n : ℕ) (s t : Span) → span_of now a ≡ Some s → span_of now n ≡ Some t → t.start < s.start → s.start < t.past → (p : ℕ) × (q : Span) × (parent_in parents a ≡ Some p) × (span_of now p ≡ Some q) × (t.start ≤ q.start)
  now_inside a n s t a_is n_is low high =
      let x = was a s a_is in
      let y = was n t n_is in
      let found = w.nested.inside a n x.0 y.0 x.1 y.1 (omega (arith, x.2, y.2)) (omega (arith, x.2, y.3)) in
      let z = becomes found.0 found.1 found.3 in
      (found.0, z.0, found.2, z.1, omega (arith, y.2, z.2, found.4))

  not_left : (k a : ℕ) (s : Span) → k < length path - 1 → slice_get path k ≡ Some a → span_of spans a ≡ Some s → a ≢ v
  not_left k a s l at is e = omega (arith, w.rising k (length path - 1) a v s old l at last is old_is, ap (λ (x : Span). x.start) (same_Some s old (sym is ∙ ap (span_of spans) e ∙ old_is)))

  now_lasting : (k a : ℕ) → slice_get (take (length path - 1) path) k ≡ Some a → (s : Span) × (span_of now a ≡ Some s) × (s.past ≡ length parents)
  now_lasting k a at =
      let here = take_was (length path - 1) path k a at in
      let one = w.lasting k a here.0 in
      (one.0, span_other spans v a (Some left) (not_left k a one.0 here.1 here.0 one.1) ∙ one.1, one.2)

  still_on : (a i : ℕ) → a ≢ v → slice_get path i ≡ Some a → slice_get (take (length path - 1) path) i ≡ Some a
  still_on a i n at =
      let inside = slice_get_within path i a at in
      elim (cases_lt i (length path - 1)) [
        | inl l ↦ take_still (length path - 1) path i a at l
        | inr l ↦ let here : i ≡ length path - 1 = omega arith in absurd (n (same_Some a v (sym at ∙ ap (slice_get path) here ∙ last)))
      ]

  now_passed : (a : ℕ) (s : Span) → span_of now a ≡ Some s → ((k : ℕ) × (slice_get (take (length path - 1) path) k ≡ Some a)) ⊎ (s.past ≤ place)
  now_passed a s is = elim (span_cases spans v a (Some left) s is) [
    | inl k ↦ elim (w.passed a s k.1) [ inl l ↦ inl (l.0, still_on a l.0 k.0 l.1) | inr l ↦ inr l ]
    | inr k ↦ inr (omega (arith, ends s k.1))
  ]

  now_rising : (i j a b : ℕ) (s t : Span) → i < j → slice_get (take (length path - 1) path) i ≡ Some a → slice_get (take (length path - 1) path) j ≡ Some b → span_of now a ≡ Some s → span_of now b ≡ Some t → s.start < t.start
  now_rising i j a b s t l i_at j_at a_is b_is =
      let x = was a s a_is in
      let y = was b t b_is in
      omega (arith, x.2, y.2, w.rising i j a b x.0 y.0 l (take_was (length path - 1) path i a i_at).0 (take_was (length path - 1) path j b j_at).0 x.1 y.1)

  pub walk_left : IsPath parents now (take (length path - 1) path) place
  walk_left = record {
    nested = record { bounded = now_bounded; single = now_single; nested = now_nested; inside = now_inside };
    begun = λ a s is. let x = was a s is in omega (arith, x.2, w.begun a x.0 x.1);
    lasting = now_lasting;
    passed = now_passed;
    rising = now_rising;
  }

module _ (parents : List (Option ℕ)) (spans : List (Option Span)) (path rest : List ℕ) (place v : ℕ) (w : IsPath parents spans path place) (within : place ≤ length parents) (popped : path ≡ rest ++ v ∷ []) where
  long : length path ≡ suc (length rest)
  long = omega (arith, ap length popped ∙ length_push rest v)

  pub at_end : slice_get path (length path - 1) ≡ Some v
  at_end = let here : length path - 1 ≡ length rest = omega (arith, long) in
      (λ j. slice_get (popped j) (here j)) ∙ push_last rest v

  front : take (length path - 1) path ≡ rest
  front = let here : length path - 1 ≡ length rest = omega (arith, long) in
      (λ j. take (here j) (popped j)) ∙ take-append_seam rest (v ∷ [])

  pub in_bounds : v < length spans
  in_bounds = let one = w.lasting (length path - 1) v at_end in slice_get_within spans v (Some one.0) (read_span (slice_get spans v) one.0 one.1)

  pub walk_popped : (o ended : Option Span) → o ≡ get_or spans v o → ((s : Span) → o ≡ Some s → ended ≡ Some (record { start = s.start; past = place })) → IsPath parents (set spans v ended) rest place
  walk_popped o ended read closed =
      let one = w.lasting (length path - 1) v at_end in
      let e : ended ≡ Some (record { start = one.0.start; past = place }) = closed one.0 (sym (ap unnested (slice_get_read spans (length spans) v o refl in_bounds read)) ∙ one.1) in
      subst (λ p. IsPath parents (set spans v ended) p place) front
      (subst (λ x. IsPath parents (set spans v x) (take (length path - 1) path) place) (sym e) (walk_left parents spans path place v one.0 w within in_bounds at_end one.1))
