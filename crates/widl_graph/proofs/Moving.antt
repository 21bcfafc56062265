-- The nodes of a group are marked and put in the order, one after another.
use Rattle.std.proofs.Common.{◌≡◌, ◌≢◌, ◌⊎◌, inl, inr, ℕ, ◌+◌, ◌-◌, ◌<◌, ◌≤◌, List, [], ◌∷◌, ◌++◌, length, set, slice_get, Some, refl, sym, ap, ◌∙◌, arith, length-append, length-set}
use Rattle.std.proofs.lemmas.Bool.{cases_eq}
use Rattle.std.proofs.lemmas.List.Sums.{sum_by-set}
use Rattle.std.proofs.lemmas.Option.{slice_get_within, get_or_from_slice_get}
use Rattle.widl_graph.specs.declared.search.Mark.{Mark}
use Rattle.widl_graph.specs.declared.search.Mark.TheVariants.{New, Open, Plain, Cyclic}
use Rattle.widl_graph.specs.declared.search.Visit.{Visit}
use Rattle.widl_graph.specs.Search.{one_new, news, IsBetween, AreMoved}
use Rattle.widl_graph.proofs.Gets.{get_one, get_some, push_old, push_last, set_same, set_other}

-- a mark that isn't new counts nothing
no_new : (m : Mark) → m ≢ New → one_new m ≡ 0
no_new New h = absurd (h refl)
no_new (Open p) h = refl
no_new (Plain r) h = refl
no_new (Cyclic r) h = refl

module _ (visits : List Visit) (base place : ℕ) (mark : Mark) (old_marks marks : List Mark) (old_order order : List ℕ) (visit : Visit) (m : AreMoved visits base place mark old_marks marks old_order order) (here : slice_get visits place ≡ Some visit) (after : base ≤ place) (was_open : slice_get old_marks visit.node ≡ Some (Open place)) (known : mark ≢ New) where
  -- the mark that the node has before it is moved
  record Before : Type 0 where
    pub mark_was : Mark
    pub is : slice_get marks visit.node ≡ Some mark_was
    pub not_new : mark_was ≢ New

  before : Before
  before = by (m.others visit.node)
    where
      by : (slice_get marks visit.node ≡ slice_get old_marks visit.node) ⊎ IsBetween visits base place visit.node → Before
      by (inl same) = record { mark_was = Open place; is = same ∙ was_open; not_new = λ e. (cc) }
      by (inr b) = record { mark_was = mark; is = ap (slice_get marks) (sym b.node) ∙ m.marked b.place b.visit b.is b.after b.before; not_new = known }

  marked_now : (p : ℕ) (v : Visit) → slice_get visits p ≡ Some v → base ≤ p → p < place + 1 → slice_get (set marks visit.node mark) v.node ≡ Some mark
  marked_now p v h a b = elim (cases_eq v.node visit.node) [
    | inl e ↦ ap (slice_get (set marks visit.node mark)) e ∙ set_same marks visit.node before.mark_was mark before.is
    | inr ne ↦ elim (cases_eq p place) [
      | inl i ↦ absurd (ne (ap (λ (z : Visit). z.node) (get_one visits place v visit (ap (slice_get visits) (sym i) ∙ h) here)))
      | inr ni ↦ set_other marks visit.node v.node mark ne ∙ m.marked p v h a (omega (arith, ni))
    ]
  ]

  placed_now : (p : ℕ) (v : Visit) → slice_get visits p ≡ Some v → base ≤ p → p < place + 1 → slice_get (order ++ visit.node ∷ []) (length old_order + (p - base)) ≡ Some v.node
  placed_now p v h a b = elim (cases_eq p place) [
    | inl i ↦
        let at : length old_order + (p - base) ≡ length order = omega (arith, m.length_is, i, after) in
        let same : visit ≡ v = get_one visits place visit v here (ap (slice_get visits) (sym i) ∙ h) in
        ap (slice_get (order ++ visit.node ∷ [])) at ∙ push_last order visit.node ∙ ap (λ (z : Visit). Some z.node) same
    | inr ni ↦ push_old order visit.node v.node (length old_order + (p - base)) (m.placed p v h a (omega (arith, ni)))
  ]

  kept_now : (i : ℕ) → i < length old_order → slice_get (order ++ visit.node ∷ []) i ≡ slice_get old_order i
  kept_now i l =
      let x = get_some order i (omega (arith, m.length_is, after, l)) in
      push_old order visit.node x.0 i x.1 ∙ sym x.1 ∙ m.kept i l

  others_now : (x : ℕ) → (slice_get (set marks visit.node mark) x ≡ slice_get old_marks x) ⊎ IsBetween visits base (place + 1) x
  others_now x = elim (cases_eq x visit.node) [
    | inl e ↦ inr (record { place = place; visit = visit; is = here; node = sym e; after = after; before = omega arith })
    | inr ne ↦ by ne (m.others x)
  ]
    where
      by : x ≢ visit.node → (slice_get marks x ≡ slice_get old_marks x) ⊎ IsBetween visits base place x → (slice_get (set marks visit.node mark) x ≡ slice_get old_marks x) ⊎ IsBetween visits base (place + 1) x
      by ne (inl same) = inl (set_other marks visit.node x mark ne ∙ same)
      by ne (inr b) = inr (record { place = b.place; visit = b.visit; is = b.is; node = b.node; after = b.after; before = (let l = b.before in omega (arith, l)) })

  news_now : news (set marks visit.node mark) ≡ news old_marks
  news_now =
      let s = sum_by-set one_new marks visit.node mark New (slice_get_within marks visit.node before.mark_was before.is) in
      let g = ap one_new (get_or_from_slice_get marks visit.node before.mark_was New before.is) in
      omega (arith, s, g, no_new before.mark_was before.not_new, no_new mark known, m.news_are)

  -- one more node is moved
  pub moved_more : AreMoved visits base (place + 1) mark old_marks (set marks visit.node mark) old_order (order ++ visit.node ∷ [])
  moved_more = record {
    size = length-set marks visit.node mark ∙ m.size;
    length_is = omega (arith, m.length_is, length-append order (visit.node ∷ []));
    news_are = news_now;
    kept = kept_now;
    placed = placed_now;
    marked = marked_now;
    others = others_now;
  }
