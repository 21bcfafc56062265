-- A walk over nodes comes to the next one.
use Rattle.std.proofs.Common.{◌≡◌, ◌≢◌, ◌⊎◌, inl, inr, ℕ, zero, suc, ◌+◌, ◌-◌, ◌<◌, ◌≤◌, ◌++◌, List, [], ◌∷◌, length, set, slice_get, option_and_then, Option, None, Some, arith, refl, sym, ap, ◌∙◌}
use Rattle.std.proofs.lemmas.Bool.{cases_lt}
use Rattle.std.proofs.lemmas.Option.{same_Some, slice_get_within}
use Rattle.widl_graph.proofs.Gets.{get_some, push_cases, push_last, push_old, set_cases, set_other, set_same}
use Rattle.widl_graph.specs.Spans.{IsPath, parent_in, span_of}
use Rattle.widl_graph.specs.declared.spans.Span.{Span}

abbrev pub unnested : Option (Option Span) → Option Span
unnested o = option_and_then (λ s. s) o

pub read_span : (o : Option (Option Span)) (s : Span) → unnested o ≡ Some s → o ≡ Some (Some s)
read_span None s h = absurd (let f : None ≡ Some s = h in (cc))
read_span (Some o) s h = ap Some h

pub span_cases : (spans : List (Option Span)) (v a : ℕ) (w : Option Span) (s : Span) → span_of (set spans v w) a ≡ Some s → ((a ≢ v) × (span_of spans a ≡ Some s)) ⊎ ((a ≡ v) × (w ≡ Some s))
span_cases spans v a w s h = elim (set_cases spans v a (Some s) w (read_span (slice_get (set spans v w) a) s h)) [
  | inl k ↦ inl (k.0, ap unnested k.1)
  | inr k ↦ inr (k.0, sym k.1)
]

pub span_other : (spans : List (Option Span)) (v a : ℕ) (w : Option Span) → a ≢ v → span_of (set spans v w) a ≡ span_of spans a
span_other spans v a w differ = ap unnested (set_other spans v a w differ)

pub span_same : (spans : List (Option Span)) (v : ℕ) (w : Option Span) → v < length spans → span_of (set spans v w) v ≡ w
span_same spans v w below = let old = get_some spans v below in ap unnested (set_same spans v old.0 w old.1)

module _ (parents : List (Option ℕ)) (spans : List (Option Span)) (path : List ℕ) (place v : ℕ) (w : IsPath parents spans path place) (within : place < length parents) (below : v < length spans) (new : span_of spans v ≡ None) (last : parent_in parents v ≡ slice_get path (length path - 1)) where
  abbrev added : Span
  added = record { start = place; past = length parents }

  abbrev now : List (Option Span)
  now = set spans v (Some added)

  unseen : (a : ℕ) (s : Span) → span_of spans a ≡ Some s → a ≢ v
  unseen a s is same = let f : None ≡ Some s = sym new ∙ ap (span_of spans) (sym same) ∙ is in (cc)

  kept : (a : ℕ) (s : Span) → span_of spans a ≡ Some s → span_of now a ≡ Some s
  kept a s is = span_other spans v a (Some added) (unseen a s is) ∙ is

  starts : (s : Span) → Some added ≡ Some s → s.start ≡ place
  starts s e = ap (λ (x : Span). x.start) (sym (same_Some added s e))

  ends : (s : Span) → Some added ≡ Some s → s.past ≡ length parents
  ends s e = ap (λ (x : Span). x.past) (sym (same_Some added s e))

  was : (a : ℕ) (s : Span) → span_of now a ≡ Some s → ((a ≢ v) × (span_of spans a ≡ Some s)) ⊎ ((a ≡ v) × (s.start ≡ place) × (s.past ≡ length parents))
  was a s is = elim (span_cases spans v a (Some added) s is) [ inl k ↦ inl k | inr k ↦ inr (k.0, starts s k.1, ends s k.1) ]

  now_bounded : (a : ℕ) (s : Span) → span_of now a ≡ Some s → (s.start < s.past) × (s.past ≤ length parents)
  now_bounded a s is = elim (was a s is) [ inl k ↦ w.nested.bounded a s k.1 | inr k ↦ (omega (arith, k.1, k.2), omega (arith, k.2)) ]

  now_single : (a b : ℕ) (s t : Span) → span_of now a ≡ Some s → span_of now b ≡ Some t → s.start ≡ t.start → a ≡ b
  now_single a b s t a_is b_is same = elim (was a s a_is) [
    | inl k ↦ elim (was b t b_is) [ inl l ↦ w.nested.single a b s t k.1 l.1 same | inr l ↦ absurd (omega (arith, w.begun a s k.1, l.1)) ]
    | inr k ↦ elim (was b t b_is) [ inl l ↦ absurd (omega (arith, w.begun b t l.1, k.1)) | inr l ↦ k.0 ∙ sym l.0 ]
  ]

  now_nested : (a p : ℕ) (s : Span) → span_of now a ≡ Some s → parent_in parents a ≡ Some p → (q : Span) × (span_of now p ≡ Some q) × (q.start < s.start) × (s.past ≤ q.past)
  now_nested a p s a_is up = elim (was a s a_is) [
    | inl k ↦ let old = w.nested.nested a p s k.1 up in (old.0, kept p old.0 old.1, old.2, old.3)
    | inr k ↦ let top : slice_get path (length path - 1) ≡ Some p = sym last ∙ ap (parent_in parents) (sym k.0) ∙ up in
        let one = w.lasting (length path - 1) p top in
        (one.0, kept p one.0 one.1, omega (arith, w.begun p one.0 one.1, k.1), omega (arith, one.2, k.2))
  ]

  before_top : (n p i : ℕ) (t q : Span) → slice_get path i ≡ Some n → slice_get path (length path - 1) ≡ Some p → span_of spans n ≡ Some t → span_of spans p ≡ Some q → t.start ≤ q.start
  before_top n p i t q at top n_is p_is =
      let inside = slice_get_within path i n at in
      elim (cases_lt i (length path - 1)) [
        | inl l ↦ omega (arith, w.rising i (length path - 1) n p t q l at top n_is p_is)
        | inr l ↦ let here : i ≡ length path - 1 = omega arith in
            let one : n ≡ p = same_Some n p (sym at ∙ ap (slice_get path) here ∙ top) in
            omega (arith, ap (λ (x : Span). x.start) (same_Some t q (sym n_is ∙ ap (span_of spans) one ∙ p_is)))
      ]

  on_path : (a n i : ℕ) (t : Span) → a ≡ v → slice_get path i ≡ Some n → span_of spans n ≡ Some t → (p : ℕ) × (q : Span) × (parent_in parents a ≡ Some p) × (span_of now p ≡ Some q) × (t.start ≤ q.start)
  on_path a n i t here at n_is =
      let inside = slice_get_within path i n at in
      let top = get_some path (length path - 1) (omega arith) in
      let one = w.lasting (length path - 1) top.0 top.1 in
      (top.0, one.0, ap (parent_in parents) here ∙ last ∙ top.1, kept top.0 one.0 one.1, before_top n top.0 i t one.0 at top.1 n_is one.1)

  now_inside : (a n : ℕ) (s t : Span) → span_of now a ≡ Some s → span_of now n ≡ Some t → t.start < s.start → s.start < t.past → (p : ℕ) × (q : Span) × (parent_in parents a ≡ Some p) × (span_of now p ≡ Some q) × (t.start ≤ q.start)
  now_inside a n s t a_is n_is low high = elim (was a s a_is) [
    | inl k ↦ elim (was n t n_is) [
      | inl l ↦ let old = w.nested.inside a n s t k.1 l.1 low high in (old.0, old.1, old.2, kept old.0 old.1 old.3, old.4)
      | inr l ↦ absurd (omega (arith, w.begun a s k.1, l.1))
    ]
    | inr k ↦ elim (was n t n_is) [
      | inl l ↦ elim (w.passed n t l.1) [ inl m ↦ on_path a n m.0 t k.0 m.1 l.1 | inr m ↦ absurd (omega (arith, k.1)) ]
      | inr l ↦ absurd (omega (arith, k.1, l.1))
    ]
  ]

  now_lasting : (k a : ℕ) → slice_get (path ++ v ∷ []) k ≡ Some a → (s : Span) × (span_of now a ≡ Some s) × (s.past ≡ length parents)
  now_lasting k a at = elim (push_cases path v a k at) [
    | inl l ↦ let old = w.lasting k a l in (old.0, kept a old.0 old.1, old.2)
    | inr l ↦ (added, ap (span_of now) l.1 ∙ span_same spans v (Some added) below, refl)
  ]

  now_passed : (a : ℕ) (s : Span) → span_of now a ≡ Some s → ((k : ℕ) × (slice_get (path ++ v ∷ []) k ≡ Some a)) ⊎ (s.past ≤ place + 1)
  now_passed a s is = elim (was a s is) [
    | inl k ↦ elim (w.passed a s k.1) [ inl l ↦ inl (l.0, push_old path v a l.0 l.1) | inr l ↦ inr (omega (arith, l)) ]
    | inr k ↦ inl (length path, push_last path v ∙ ap Some (sym k.0))
  ]

  old_span : (i a : ℕ) (s : Span) → slice_get path i ≡ Some a → span_of now a ≡ Some s → span_of spans a ≡ Some s
  old_span i a s at is = let old = w.lasting i a at in sym (span_other spans v a (Some added) (unseen a old.0 old.1)) ∙ is

  now_rising : (i j a b : ℕ) (s t : Span) → i < j → slice_get (path ++ v ∷ []) i ≡ Some a → slice_get (path ++ v ∷ []) j ≡ Some b → span_of now a ≡ Some s → span_of now b ≡ Some t → s.start < t.start
  now_rising i j a b s t l i_at j_at a_is b_is = elim (push_cases path v a i i_at) [
    | inl k ↦ elim (push_cases path v b j j_at) [
      | inl m ↦ w.rising i j a b s t l k m (old_span i a s k a_is) (old_span j b t m b_is)
      | inr m ↦ let begins = w.begun a s (old_span i a s k a_is) in
          omega (arith, starts t (sym (ap (span_of now) m.1 ∙ span_same spans v (Some added) below) ∙ b_is))
    ]
    | inr k ↦ elim (push_cases path v b j j_at) [ inl m ↦ absurd (let far = slice_get_within path j b m in omega (arith, k.0)) | inr m ↦ absurd (omega (arith, k.0, m.0)) ]
  ]

  pub walk_entered : IsPath parents now (path ++ v ∷ []) (place + 1)
  walk_entered = record {
    nested = record { bounded = now_bounded; single = now_single; nested = now_nested; inside = now_inside };
    begun = λ a s is. elim (was a s is) [ inl k ↦ omega (arith, w.begun a s k.1) | inr k ↦ omega (arith, k.1) ];
    lasting = now_lasting;
    passed = now_passed;
    rising = now_rising;
  }

-- no node has a span yet
pub none_more : (spans : List (Option Span)) → ((n : ℕ) → span_of spans n ≡ None) → (n : ℕ) → span_of (spans ++ None ∷ []) n ≡ None
none_more [] h zero = refl
none_more [] h (suc n) = refl
none_more (s ∷ spans) h zero = h 0
none_more (s ∷ spans) h (suc n) = none_more spans (λ k. h (suc k)) n

pub walk_begun : (parents : List (Option ℕ)) (spans : List (Option Span)) → ((n : ℕ) → span_of spans n ≡ None) → IsPath parents spans [] 0
walk_begun parents spans h =
    let no : (a : ℕ) (s : Span) → span_of spans a ≡ Some s → ⊥ = λ a s is. let f : None ≡ Some s = sym (h a) ∙ is in (cc) in
    record {
      nested = record { bounded = λ a s is. absurd (no a s is); single = λ a b s t a_is b_is e. absurd (no a s a_is); nested = λ a p s is up. absurd (no a s is); inside = λ a n s t a_is n_is low high. absurd (no a s a_is) };
      begun = λ a s is. absurd (no a s is);
      lasting = λ k a at. absurd (let f : None ≡ Some a = at in (cc));
      passed = λ a s is. absurd (no a s is);
      rising = λ i j a b s t l i_at j_at a_is b_is. absurd (no a s a_is);
    }
