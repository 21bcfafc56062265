-- Spans tell which interfaces of a forest are related.
use Rattle.std.proofs.Common.{◌≡◌, ◌≢◌, ◌⊎◌, inl, inr, ℕ, ◌<◌, ◌≤◌, Bool, true, false, ◌||◌, ◌&&◌, ltb, List, length, map, nat_eq, slice_get, Option, Some, unwrap_or, arith, refl, sym, ap, subst, ◌∙◌}
use Rattle.std.specs.Option.{option_to_list}
use Rattle.std.specs.Prelude.{option_and_then}
use Rattle.std.proofs.lemmas.Bool.{cases_lt, ltb-true, lt-ltb, eqb-true, eq-eqb}
use Rattle.std.proofs.lemmas.List.{length-map}
use Rattle.std.proofs.lemmas.Option.{same_Some, slice_get_past}
use Rattle.std.proofs.lemmas.Simd.{map-map}
use Rattle.widl_graph.proofs.Reach.{first_step}
use Rattle.widl_graph.specs.Reaching.{IsForest, Reaches, more, one}
use Rattle.widl_fits.specs.Hierarchies.{interface_parents}
use Rattle.widl_idl.specs.DefinitionTerms.{IfaceTerm}
use Rattle.widl_graph.proofs.Complete.{step_within}
use Rattle.widl_overload.specs.sets.Inheritance.{inherits}
use Rattle.widl_graph.specs.Spans.{AreSpans, AreWhole, parent_graph, span_of}
use Rattle.widl_graph.specs.declared.spans.Span.{Span}
use Rattle.widl_inheritance.proofs.ReachedParents.{inherits_reaching}
use Rattle.widl_type_rules.specs.IndistinguishablePairs.{are_related}
use Rattle.widl_type_rules.specs.Lineages.{TellRelated, after_all, lineage_of, touches}
use Rattle.widl_type_rules.proofs.AnyPair.{or_true}

either_true : (a b : Bool) → (a || b) ≡ true → (a ≡ true) ⊎ (b ≡ true)
either_true true b h = inl refl
either_true false b h = inr h

both_true : (a b : Bool) → (a && b) ≡ true → (a ≡ true) × (b ≡ true)
both_true true b h = (refl, h)
both_true false b h = absurd (let f : false ≡ true = h in (cc))

same_tests : (a b : Bool) → (a ≡ true → b ≡ true) → (b ≡ true → a ≡ true) → a ≡ b
same_tests true b f g = sym (f refl)
same_tests false true f g = g refl
same_tests false false f g = refl

pub parents_graph : (ifaces : List IfaceTerm) → parent_graph (map (λ (i : IfaceTerm). i.parent) ifaces) ≡ interface_parents ifaces
parents_graph ifaces = map-map option_to_list (λ (i : IfaceTerm). i.parent) ifaces

module _ (ifaces : List IfaceTerm) (spans : List (Option Span)) (order : List ℕ) (forest : IsForest (interface_parents ifaces)) (all : AreSpans (map (λ (i : IfaceTerm). i.parent) ifaces) spans order) (whole : AreWhole spans) where
  count : length (interface_parents ifaces) ≡ length spans
  count = length-map ifaces (λ (i : IfaceTerm). option_to_list i.parent) ∙ sym (all.size ∙ length-map ifaces (λ (i : IfaceTerm). i.parent))

  abbrev lineage : ℕ → Span
  lineage n = lineage_of spans n

  listed : (n : ℕ) → n < length spans → span_of spans n ≡ Some (lineage n)
  listed n below = let found = whole n below in found.1 ∙ ap Some (sym (ap (λ (o : Option Span). unwrap_or o (after_all spans n)) found.1))

  alone : (n : ℕ) → length spans ≤ n → lineage n ≡ after_all spans n
  alone n past = ap (λ (o : Option (Option Span)). unwrap_or (option_and_then (λ s. s) o) (after_all spans n)) (slice_get_past spans n past)

  filled : (n : ℕ) → (lineage n).start < (lineage n).past
  filled n = elim (cases_lt n (length spans)) [
    | inl below ↦ all.filled n (lineage n) (listed n below)
    | inr past ↦ let is = alone n past in omega (arith, ap (λ (s : Span). s.start) is, ap (λ (s : Span). s.past) is)
  ]

  -- the span of an heir begins in that of each interface above it
  inside : {m n : ℕ} → Reaches (interface_parents ifaces) m n → ((lineage n).start < (lineage m).start) × ((lineage m).start < (lineage n).past)
  inside {m = m} {n = n} r = all.within m n (lineage m) (lineage n) (listed m (subst (λ c. m < c) count (step_within (interface_parents ifaces) m (first_step r).0 (first_step r).1))) (listed n (last_within r)) (subst (λ g. Reaches g m n) (sym (parents_graph ifaces)) r)
    where
      last_within : {x y : ℕ} → Reaches (interface_parents ifaces) x y → y < length spans
      last_within (one {x = x} {y = y} s) = subst (λ c. y < c) count (forest.listed.below x y s)
      last_within (more s rest) = last_within rest

  touch : (s t : Span) → t.start < s.past → s.start < t.past → touches s t ≡ true
  touch s t a b = λ j. lt-ltb t.start s.past a j && lt-ltb s.start t.past b j

  touching : (m n : ℕ) → are_related ifaces m n ≡ true → touches (lineage m) (lineage n) ≡ true
  touching m n h = elim (either_true (nat_eq m n) (inherits ifaces m n || inherits ifaces n m) h) [
    | inl e ↦ subst (λ k. touches (lineage m) (lineage k) ≡ true) (eqb-true m n e) (touch (lineage m) (lineage m) (filled m) (filled m))
    | inr k ↦ elim (either_true (inherits ifaces m n) (inherits ifaces n m) k) [
      | inl e ↦ let r = inside ((inherits_reaching ifaces forest.acyclic m n).0 e) in touch (lineage m) (lineage n) (omega (arith, r.0, filled m)) r.1
      | inr e ↦ let r = inside ((inherits_reaching ifaces forest.acyclic n m).0 e) in touch (lineage m) (lineage n) r.1 (omega (arith, r.0, filled n))
    ]
  ]

  heir : (m n : ℕ) → m < length spans → n < length spans → (lineage n).start < (lineage m).start → (lineage m).start < (lineage n).past → inherits ifaces m n ≡ true
  heir m n m_in n_in low high = (inherits_reaching ifaces forest.acyclic m n).1 (subst (λ g. Reaches g m n) (parents_graph ifaces) (all.comes m n (lineage m) (lineage n) (listed m m_in) (listed n n_in) low high))

  module _ (m n : ℕ) (other : nat_eq m n ≡ false) (m_first : (lineage m).start < (lineage n).past) (n_first : (lineage n).start < (lineage m).past) where
    differ : m ≢ n
    differ same = let f : true ≡ false = sym (eq-eqb m n same) ∙ other in (cc)

    both_in : m < length spans → n < length spans → (inherits ifaces m n || inherits ifaces n m) ≡ true
    both_in m_in n_in = elim (cases_lt (lineage n).start (lineage m).start) [
      | inl l ↦ ap (λ b. b || inherits ifaces n m) (heir m n m_in n_in l m_first)
      | inr l ↦
          let apart : (lineage m).start ≢ (lineage n).start = λ e. differ (same_Some m n (sym (all.in_order.listed m (lineage m) (listed m m_in)) ∙ ap (slice_get order) e ∙ all.in_order.listed n (lineage n) (listed n n_in))) in
          ap (λ b. inherits ifaces m n || b) (heir n m n_in m_in (omega (arith, l, apart)) n_first) ∙ or_true (inherits ifaces m n)
    ]

    one_out : (k l : ℕ) → k < length spans → length spans ≤ l → (lineage l).start < (lineage k).past → ⊥
    one_out k l k_in l_out first =
        let most = all.bounded k (lineage k) (listed k k_in) in
        omega (arith, most, l_out, first, ap (λ (s : Span). s.start) (alone l l_out))

    related_by : (inherits ifaces m n || inherits ifaces n m) ≡ true
    related_by = elim (cases_lt m (length spans)) [
      | inl m_in ↦ elim (cases_lt n (length spans)) [ inl n_in ↦ both_in m_in n_in | inr n_out ↦ absurd (one_out m n m_in n_out n_first) ]
      | inr m_out ↦ elim (cases_lt n (length spans)) [
        | inl n_in ↦ absurd (one_out n m n_in m_out m_first)
        | inr n_out ↦
            let m_is = alone m m_out in
            let n_is = alone n n_out in
            absurd (differ (omega (arith, m_first, n_first, ap (λ (s : Span). s.start) m_is, ap (λ (s : Span). s.past) m_is, ap (λ (s : Span). s.start) n_is, ap (λ (s : Span). s.past) n_is)))
      ]
    ]

  related : (m n : ℕ) (same : Bool) → nat_eq m n ≡ same → (lineage n).start < (lineage m).past → (lineage m).start < (lineage n).past → (same || (inherits ifaces m n || inherits ifaces n m)) ≡ true
  related m n true e a b = refl
  related m n false e a b = related_by m n e b a

  pub tell_related : TellRelated ifaces spans
  tell_related = record {
    filled = filled;
    tells = λ m n. same_tests (are_related ifaces m n) (touches (lineage m) (lineage n)) (touching m n)
        (λ h. let both = both_true (ltb (lineage n).start (lineage m).past) (ltb (lineage m).start (lineage n).past) h in
        related m n (nat_eq m n) refl (ltb-true (lineage n).start (lineage m).past both.0) (ltb-true (lineage m).start (lineage n).past both.1));
  }
