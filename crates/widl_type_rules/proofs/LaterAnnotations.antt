-- Of the `[Clamp]`s and `[EnforceRange]`s among annotations, the later of the first ones is the first that is the later of both.
use Rattle.std.proofs.Common.{◌≡◌, inl, Bool, true, false, cond, List, Contains, Option, None, Some, option_map, arith, refl, sym, ap, subst, ◌∙◌}
use Rattle.std.specs.Prelude.{option_and_then}
use Rattle.widl_text.specs.declared.place.Place.{Place}
use Rattle.widl_idl.specs.declared.violation.Violation.{Violation}
use Rattle.widl_idl.specs.First.{Before, ComesBefore, is_before, violation_at, FirstWhere, Somewhere}
use Rattle.widl_idl.specs.Resolution.{Annotation, ClampTo, EnforceRange, Note}
use Rattle.widl_idl.proofs.Order.{before_alone, before_of, before_trans}
use Rattle.widl_names.specs.SaidNotes.{NotedAt, StandsFirst}
use Rattle.widl_overload.specs.rules.TypeRules.{HasBoth, later}

-- what stands before p stands before q too, where p doesn't stand before q
not_after : (p q r : Place) → is_before p q ≡ false → Before p r → Before q r
not_after p q r e b = grind arith

-- of two pairs the later places are in order where the places are
module _ (p q c e : Place) (clamp : Before p c → ⊥) (enforce : Before q e → ⊥) where
  by_tests : (b d : Bool) → is_before p q ≡ b → is_before c e ≡ d → Before (cond b q p) (cond d e c) → ⊥
  by_tests true true is so before = enforce before
  by_tests false true is so before = enforce (not_after p q e is before)
  by_tests true false is so before = clamp (before_trans p q c (before_of p q is) before)
  by_tests false false is so before = clamp before

  later_ordered : Before (later p q) (later c e) → ⊥
  later_ordered before = by_tests (is_before p q) (is_before c e) refl refl before

module _ (notes : List Note) where
  among : (annotation : Annotation) (n : Note) → Contains notes n → n.annotation ≡ annotation → Somewhere (NotedAt annotation) notes (violation_at n.at)
  among annotation n listed is = record { item = n; listed = listed; breaks = (is, refl) }

  no_clamp : StandsFirst ClampTo notes None → FirstWhere (HasBoth notes) None
  no_clamp l = λ t h. l (violation_at h.clamp.at) (among ClampTo h.clamp h.clamp_listed h.clamps)

  no_enforce : StandsFirst EnforceRange notes None → FirstWhere (HasBoth notes) None
  no_enforce m = λ t h. m (violation_at h.enforce.at) (among EnforceRange h.enforce h.enforce_listed h.enforces)

  later_first : (c e : Place) → StandsFirst ClampTo notes (Some c) → StandsFirst EnforceRange notes (Some e) → FirstWhere (HasBoth notes) (Some (violation_at (later c e)))
  later_first c e l m = record {
    holds = record {
      clamp = l.holds.item;
      enforce = m.holds.item;
      clamp_listed = l.holds.listed;
      enforce_listed = m.holds.listed;
      clamps = l.holds.breaks.0;
      enforces = m.holds.breaks.0;
      at_later = ap (λ (s : Violation). violation_at (later s.at m.holds.item.at)) l.holds.breaks.1 ∙ ap (λ (s : Violation). violation_at (later c s.at)) m.holds.breaks.1;
    };
    first = λ t h before.
        later_ordered h.clamp.at h.enforce.at c e
        (λ earlier. l.first (violation_at h.clamp.at) (among ClampTo h.clamp h.clamp_listed h.clamps) (inl earlier))
        (λ earlier. m.first (violation_at h.enforce.at) (among EnforceRange h.enforce h.enforce_listed h.enforces) (inl earlier))
        (before_alone (later h.clamp.at h.enforce.at) (later c e) (subst (λ (s : Violation). ComesBefore s (violation_at (later c e))) (sym h.at_later) before));
  }

  -- what the two first ones tell
  pub both_first : (clamp enforce : Option Place) (found : Option Violation) → found ≡ option_and_then (λ c. option_map (λ e. violation_at (later c e)) enforce) clamp → StandsFirst ClampTo notes clamp → StandsFirst EnforceRange notes enforce → FirstWhere (HasBoth notes) found
  both_first None enforce found is l m = subst (FirstWhere (HasBoth notes)) (sym is) (no_clamp l)
  both_first (Some c) None found is l m = subst (FirstWhere (HasBoth notes)) (sym is) (no_enforce m)
  both_first (Some c) (Some e) found is l m = subst (FirstWhere (HasBoth notes)) (sym is) (later_first c e l m)
