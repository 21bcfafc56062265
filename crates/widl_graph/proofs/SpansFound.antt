-- Nested spans tell which nodes come from which.
use Rattle.std.proofs.Common.{◌≡◌, inl, inr, ℕ, zero, suc, ◌<◌, ◌≤◌, List, Option, Some, arith, sym, ap, ◌∙◌}
use Rattle.std.proofs.lemmas.Bool.{cases_lt}
use Rattle.std.proofs.lemmas.Option.{same_Some}
use Rattle.widl_graph.proofs.ParentSteps.{step_up, up_step}
use Rattle.widl_graph.specs.Reaching.{Reaches, more, one}
use Rattle.widl_graph.specs.Spans.{AreNested, AreSpans, IsWalk, parent_graph, span_of}
use Rattle.widl_graph.specs.declared.spans.Span.{Span}

module _ (parents : List (Option ℕ)) (spans : List (Option Span)) (all : AreNested parents spans) where
  -- what comes from a node lies in its span, after the start
  lies : (n m : ℕ) (s t : Span) → Reaches (parent_graph parents) n m → span_of spans n ≡ Some s → span_of spans m ≡ Some t → (t.start < s.start) × (s.past ≤ t.past)
  lies n m s t (one step) n_is m_is =
      let up = all.nested n m s n_is (step_up (λ p. p) parents n m step) in
      let same : up.0 ≡ t = same_Some up.0 t (sym up.1 ∙ m_is) in
      (omega (arith, up.2, ap (λ (x : Span). x.start) same), omega (arith, up.3, ap (λ (x : Span). x.past) same))
  lies n m s t (more {y = p} step rest) n_is m_is =
      let up = all.nested n p s n_is (step_up (λ p. p) parents n p step) in
      let further = lies p m up.0 t rest up.1 m_is in
      (omega (arith, up.2, further.0), omega (arith, up.3, further.1))

  -- what begins in a span, after the start, comes from its node
  comes_within : (fuel n m : ℕ) (s t : Span) → s.start < fuel → span_of spans n ≡ Some s → span_of spans m ≡ Some t → t.start < s.start → s.start < t.past → Reaches (parent_graph parents) n m
  comes_within zero n m s t less n_is m_is low high = absurd (omega arith)
  comes_within (suc fuel) n m s t less n_is m_is low high =
      let up = all.inside n m s t n_is m_is low high in
      let above = all.nested n up.0 s n_is up.2 in
      let same : above.0 ≡ up.1 = same_Some above.0 up.1 (sym above.1 ∙ up.3) in
      let before : up.1.start < s.start = omega (arith, above.2, ap (λ (x : Span). x.start) same) in
      elim (cases_lt t.start up.1.start) [
        | inl l ↦ more (up_step (λ p. p) parents n up.0 up.2) (comes_within fuel up.0 m up.1 t (omega (arith, before)) up.3 m_is l (omega (arith, before)))
        | inr l ↦ let here : up.0 ≡ m = all.single up.0 m up.1 t up.3 m_is (omega (arith, up.4)) in
            one (up_step (λ p. p) parents n m (up.2 ∙ ap Some here))
      ]

-- what a walk that is over has found
pub found_spans : (parents : List (Option ℕ)) (spans : List (Option Span)) (order path : List ℕ) → IsWalk parents spans order path → AreSpans parents spans order
found_spans parents spans order path w =
    let all : AreNested parents spans = w.on_path.nested in
    record {
      size = w.size;
      filled = λ n s is. (all.bounded n s is).0;
      bounded = λ n s is. omega (arith, (all.bounded n s is).1, w.size);
      in_order = w.in_order;
      within = λ n m s t n_is m_is r. let l = lies parents spans all n m s t r n_is m_is in (l.0, omega (arith, l.1, (all.bounded n s n_is).0));
      comes = λ n m s t n_is m_is low high. comes_within parents spans all (suc s.start) n m s t (omega arith) n_is m_is low high;
    }
