-- Items whose text an earlier one has, an item at a time.
use Rattle.std.proofs.Common.{◌≡◌, ℕ, ◌+◌, ◌<◌, ◌≤◌, Bool, true, false, cond, ◌||◌, List, [], length, take, map, get_or, bytes_eq, Option, None, Some, sym, ap, ◌∙◌}
use Rattle.std.specs.List.{list_any}
use Rattle.widl_text.specs.declared.place.Place.{Place}
use Rattle.widl_idl.specs.declared.violation.Violation.{Violation}
use Rattle.widl_idl.specs.First.{AtOne, FirstWhere, earlier, violation_at}
use Rattle.widl_idl.proofs.Order.{one_place}
use Rattle.widl_definition_rules.specs.KnownTexts.{RepeatsText}
use Rattle.widl_names.proofs.MappedLoops.{any_step, at_one_end, at_one_step, none_at_one}

-- the texts of these items are known, and the first violation at which one repeats a text
pub record Repeated {X : Type 0} (text : X → List ℕ) (at : X → Place) (known : List ℕ → Bool) (xs : List X) (best : Option Violation) : Type 0 where
  pub texts : (t : List ℕ) → known t ≡ list_any (λ y. bytes_eq (text y) t) xs
  pub earliest : FirstWhere (AtOne (RepeatsText text at) xs) best

module _ {X : Type 0} (text : X → List ℕ) (at : X → Place) (known : List ℕ → Bool) where
  pub nothing_repeated : ((t : List ℕ) → known t ≡ false) → Repeated text at known [] None
  nothing_repeated none = record { texts = none; earliest = none_at_one (RepeatsText text at) }

  -- what is found at an item whose text is looked up
  repeated_here : (before : List X) (x : X) (found : Option Violation) → ((t : List ℕ) → known t ≡ list_any (λ y. bytes_eq (text y) t) before) → found ≡ cond (known (text x)) (Some (violation_at (at x))) None → FirstWhere (RepeatsText text at before x) found
  repeated_here before x found same e =
      one_place (list_any (λ y. bytes_eq (text y) (text x)) before ≡ true) (at x) (known (text x)) found
      (λ h. sym (same (text x)) ∙ h)
      (λ h q. absurd (let apart : true ≡ false = sym q ∙ sym (same (text x)) ∙ h in (cc)))
      e

  -- one item more
  pub repeated_step : {Y : Type 0} (f : Y → X) (ys : List Y) (i : ℕ) (y : Y) (looked : List ℕ) (now_known : List ℕ → Bool) (best found now : Option Violation) → i < length ys → y ≡ get_or ys i y → text (f y) ≡ looked
      → ((t : List ℕ) → now_known t ≡ (known t || bytes_eq looked t)) → found ≡ cond (known looked) (Some (violation_at (at (f y)))) None → now ≡ earlier best found
      → Repeated text at known (map f (take i ys)) best → Repeated text at now_known (map f (take (i + 1) ys)) now
  repeated_step f ys i y looked now_known best found now below is same adds e n r = record {
    texts = λ t. any_step f ys (λ x. bytes_eq (text x) t) i y (known t) (now_known t) below is (adds t ∙ ap (λ l. known t || bytes_eq l t) (sym same)) (r.texts t);
    earliest = at_one_step f ys (RepeatsText text at) i y best found now below is n (repeated_here (map f (take i ys)) (f y) found r.texts (e ∙ ap (λ l. cond (known l) (Some (violation_at (at (f y)))) None) (sym same))) r.earliest;
  }

  -- at the end of the list
  pub repeated_end : {Y : Type 0} (f : Y → X) (ys : List Y) (i : ℕ) (best : Option Violation) → length ys ≤ i → Repeated text at known (map f (take i ys)) best → FirstWhere (AtOne (RepeatsText text at) (map f ys)) best
  repeated_end f ys i best past r = at_one_end f ys (RepeatsText text at) i best past r.earliest
