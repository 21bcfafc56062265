-- The one violation at which the overloads of a callee break a rule.
use Rattle.std.proofs.Common.{◌≡◌, ℕ, ◌-◌, ◌<◌, ◌≤◌, true, List, length, arith, refl, sym, ap, subst, ◌∙◌}
use Rattle.std.specs.Prelude.{Option, None, Some, option_map, slice_get}
use Rattle.std.proofs.lemmas.Option.{same_Some}
use Rattle.widl_text.specs.declared.place.Place.{Place}
use Rattle.widl_idl.specs.declared.violation.Violation.{Violation}
use Rattle.widl_idl.specs.DefinitionTerms.{SigTerm}
use Rattle.widl_idl.specs.First.{FirstWhere}
use Rattle.widl_idl.proofs.Order.{first_same, one_violation}
use Rattle.widl_overload.specs.sets.Index.{of_one_length}
use Rattle.widl_overload.specs.declared.span.Span.{Span}
use Rattle.widl_overload.specs.sets.OverloadNames.{AreNamedAt, number_of, place_of_number}
use Rattle.widl_overload.specs.rules.OverloadRules.{AtOverloads, AtSmallestLength, IsLeastNumber, overload_place}
use Rattle.widl_overload.specs.rules.OverloadViolations.{IsAtNames, IsOnly, IsOnlyViolation, IsSmallest}
use Rattle.widl_overload.specs.sets.Sets.{TupleTerm, effective_tuples, longest}
use Rattle.widl_overload.specs.sets.Spans.{AreSpans, spans_hold, true_places}
use Rattle.widl_overload.proofs.Rows.{row_of}

abbrev pub violation : Place → Option Place → Violation
violation at other = record { at = at; other = other }

module _ (sigs : List SigTerm) (tuples : List TupleTerm) where
  place_of : (o : Option TupleTerm) (t : TupleTerm) (n : ℕ) → o ≡ Some t → Some n ≡ option_map number_of o → overload_place sigs t ≡ place_of_number sigs n
  place_of o t n e number = ap (place_of_number sigs) (same_Some t.overload n (sym (number ∙ ap (option_map number_of) e)))

  some_tuple : (o : Option TupleTerm) (n : ℕ) → Some n ≡ option_map number_of o → (t : TupleTerm) × (o ≡ Some t)
  some_tuple None n e = absurd (cc)
  some_tuple (Some t) n e = (t, refl)

  not_none : (o : Option TupleTerm) (t : TupleTerm) → None ≡ option_map number_of o → o ≡ Some t → ⊥
  not_none None t e f = cc
  not_none (Some u) t e f = cc

  -- without a first tuple there is no violation
  pub no_first_name : None ≡ option_map number_of (slice_get tuples 0) → (s : Violation) → AtOverloads sigs tuples s → ⊥
  no_first_name e s h = not_none (slice_get tuples 0) h.first e h.is_first

  pub no_last_name : None ≡ option_map number_of (slice_get tuples (length tuples - 1)) → (s : Violation) → AtOverloads sigs tuples s → ⊥
  no_last_name e s h = not_none (slice_get tuples (length tuples - 1)) h.last e h.is_last

  -- nor without a name of the last one
  pub no_place : (last : ℕ) → Some last ≡ option_map number_of (slice_get tuples (length tuples - 1)) → None ≡ place_of_number sigs last → (s : Violation) → AtOverloads sigs tuples s → ⊥
  no_place last l none s h =
      let e : None ≡ Some s.at = none ∙ sym (place_of (slice_get tuples (length tuples - 1)) h.last last h.is_last l) ∙ h.at_last in
      (cc)

  -- the names of the first and of the last tuple's overload are the only violation
  pub names_only : (first last : ℕ) (at : Place) → Some first ≡ option_map number_of (slice_get tuples 0) → Some last ≡ option_map number_of (slice_get tuples (length tuples - 1)) → Some at ≡ place_of_number sigs last → IsOnlyViolation (AtOverloads sigs tuples) (record { at = at; other = place_of_number sigs first })
  names_only first last at f l place =
      let one = some_tuple (slice_get tuples 0) first f in
      let other = some_tuple (slice_get tuples (length tuples - 1)) last l in
      record {
        holds = record {
          first = one.0;
          last = other.0;
          is_first = one.1;
          is_last = other.1;
          at_last = place_of (slice_get tuples (length tuples - 1)) other.0 last other.1 l ∙ sym place;
          other_first = place_of (slice_get tuples 0) one.0 first one.1 f;
        };
        only = λ s h.
            let same_at : at ≡ s.at = same_Some at s.at (place ∙ sym (place_of (slice_get tuples (length tuples - 1)) h.last last h.is_last l) ∙ h.at_last) in
            let same_other : place_of_number sigs first ≡ s.other = sym (place_of (slice_get tuples 0) h.first first h.is_first f) ∙ h.other_first in
            ap (λ p. violation p (place_of_number sigs first)) same_at ∙ ap (violation s.at) same_other;
      }

-- the only violation is the least
pub first_only : (P : Violation → Type 0) (found : Option Violation) → IsOnly P found → FirstWhere P found
first_only P None none = none
first_only P (Some s) h = first_same (λ t. P s × (s ≡ t)) P (Some s) (λ t q. subst P q.1 q.0) (λ t p. (h.holds, h.only t p)) (one_violation (P s) s true (Some s) (λ e. h.holds) (λ e. absurd (cc)) refl)

module _ (P : List TupleTerm → ℕ → Type 0) (sigs : List SigTerm) where
  one_first : (Q : ℕ → Type 0) (m n : ℕ) → IsLeastNumber Q m → IsLeastNumber Q n → m ≡ n
  one_first Q m n a b =
      let not_below : m < n → ⊥ = λ l. b.first m l a.holds in
      let not_above : n < m → ⊥ = λ l. a.first n l b.holds in
      omega (arith, not_below, not_above)

  at_size : (m : ℕ) (s : Violation) → IsLeastNumber (P (effective_tuples sigs 0)) m → AtSmallestLength P sigs s → AtOverloads sigs (of_one_length m (effective_tuples sigs 0)) s
  at_size m s earliest h = subst (λ n. AtOverloads sigs (of_one_length n (effective_tuples sigs 0)) s) (one_first (P (effective_tuples sigs 0)) h.size m h.smallest earliest) h.at_names

  only_at_size : (m : ℕ) (found : Option Violation) → IsLeastNumber (P (effective_tuples sigs 0)) m → IsOnly (AtOverloads sigs (of_one_length m (effective_tuples sigs 0))) found → IsOnly (AtSmallestLength P sigs) found
  only_at_size m None earliest none = λ s h. none s (at_size m s earliest h)
  only_at_size m (Some s) earliest h = record { holds = record { size = m; smallest = earliest; at_names = h.holds }; only = λ t b. h.only t (at_size m t earliest b) }

  -- where no length breaks the rule there is no violation
  pub never_broken : ((m : ℕ) → P (effective_tuples sigs 0) m → ⊥) → (s : Violation) → AtSmallestLength P sigs s → ⊥
  never_broken never s h = never h.size h.smallest.holds

  beyond_or_within : (most : ℕ) → ((m : ℕ) → m ≤ most → P (effective_tuples sigs 0) m → ⊥) → ((m : ℕ) → most < m → P (effective_tuples sigs 0) m → ⊥) → (m : ℕ) → P (effective_tuples sigs 0) m → ⊥
  beyond_or_within most within beyond m p =
      let above : m ≤ most → ⊥ = λ l. within m l p in
      beyond m (omega (arith, above)) p

  found_first : (most : ℕ) (size : Option ℕ) (found : Option Violation) → ((m : ℕ) → most < m → P (effective_tuples sigs 0) m → ⊥) → IsSmallest (P (effective_tuples sigs 0)) most size → IsAtNames sigs (effective_tuples sigs 0) size found → FirstWhere (AtSmallestLength P sigs) found
  found_first most None found beyond within none = subst (FirstWhere (AtSmallestLength P sigs)) (sym none) (never_broken (beyond_or_within most within beyond))
  found_first most (Some m) found beyond earliest only = first_only (AtSmallestLength P sigs) found (only_at_size m found earliest only)

  named_at : (spans : List Span) (most : ℕ) (size : Option ℕ) (found : Option Violation) → most ≡ longest sigs → AreSpans sigs spans → ((m : ℕ) → most < m → P (effective_tuples sigs 0) m → ⊥) → IsSmallest (P (effective_tuples sigs 0)) most size → AreNamedAt sigs spans size found → IsAtNames sigs (effective_tuples sigs 0) size found
  named_at spans most None found is spanned beyond small none = none
  named_at spans most (Some m) found is spanned beyond small named =
      let not_beyond : most < m → ⊥ = λ l. beyond m l small.holds in
      let within : m ≤ longest sigs = omega (arith, not_beyond) in
      named (of_one_length m (effective_tuples sigs 0)) (row_of sigs spans m (true_places 0 (spans_hold m spans)) within spanned refl).are

  -- the violation at the names of the overloads of the smallest length is the least
  pub callee_violation : (spans : List Span) (most : ℕ) (size : Option ℕ) (found : Option Violation) → most ≡ longest sigs → AreSpans sigs spans → ((m : ℕ) → most < m → P (effective_tuples sigs 0) m → ⊥) → IsSmallest (P (effective_tuples sigs 0)) most size → AreNamedAt sigs spans size found → FirstWhere (AtSmallestLength P sigs) found
  callee_violation spans most size found is spanned beyond small named = found_first most size found beyond small (named_at spans most size found is spanned beyond small named)
