-- What holds of overloads by their numbers holds of their tuples of a length.
use Rattle.std.proofs.Common.{◌≡◌, inl, inr, ℕ, zero, suc, ◌<◌, ◌≤◌, ◌&&◌, Bool, true, false, List, [], ◌∷◌, length, map, get_or, nat_le, arith, refl, sym, ap, subst, ◌∙◌}
use Rattle.std.specs.Prelude.{Option, None, Some, MatchBool, MatchOption, Contains, option_map, slice_get}
use Rattle.std.specs.List.{All, list_all}
use Rattle.std.proofs.lemmas.List.{length-map}
use Rattle.std.proofs.lemmas.List.Elements.{All-cons, All-contains, All-nil}
use Rattle.std.proofs.lemmas.Option.{slice_get-map}
use Rattle.widl_idl.specs.DefinitionTerms.{IfaceTerm, SigTerm}
use Rattle.widl_overload.specs.declared.span.Span.{Span}
use Rattle.widl_overload.specs.sets.Index.{IsIndex, apart_at, distinguishes, each_two, of_one_length, types_apart}
use Rattle.widl_overload.specs.sets.Numbers.{AllAgree, FirstDiffers, IsEarly, IsTelling, NoneTells, NumbersAgreeBefore, NumbersDifferAt, numbers_apart, numbers_tell}
use Rattle.widl_overload.specs.sets.OverloadNames.{number_of}
use Rattle.widl_overload.specs.rules.OverloadRules.{DifferAt, DifferEarly, LacksIndex}
use Rattle.widl_overload.specs.rules.OverloadViolations.{AgreeBefore, TwoDiffer}
use Rattle.widl_overload.specs.sets.Sets.{TupleTerm, effective_tuples, longest}
use Rattle.widl_overload.specs.sets.Spans.{AreSpans, spans_hold, true_places}
use Rattle.widl_overload.proofs.DifferingTuples.{differ_by_first, early_by_index, first_listed, none_differ, not_both}
use Rattle.widl_overload.proofs.NumberedTuples.{StandsFor, numbers_are, tuples_stand}
use Rattle.widl_overload.proofs.OneLength.{of_this_length}

-- the overloads with these numbers have these tuples of a length
pub record AreOf (sigs : List SigTerm) (m : ℕ) (numbers : List ℕ) (tuples : List TupleTerm) : Type 0 where
  pub are : numbers ≡ map number_of tuples
  pub stand : All (StandsFor sigs m) tuples

-- a row has the tuples of its length
pub row_of : (sigs : List SigTerm) (spans : List Span) (m : ℕ) (numbers : List ℕ) → m ≤ longest sigs → AreSpans sigs spans → numbers ≡ true_places 0 (spans_hold m spans) → AreOf sigs m numbers (of_one_length m (effective_tuples sigs 0))
row_of sigs spans m numbers within spanned is = subst (AreOf sigs m numbers) (sym (of_this_length sigs m within)) (record {
  are = is ∙ ap (true_places 0) (spanned.each m) ∙ sym (numbers_are sigs m 0);
  stand = tuples_stand sigs m;
})

-- a number that is listed is that of a tuple
numbered_at : (tuples : List TupleTerm) (k n : ℕ) → k < length tuples → get_or (map number_of tuples) k n ≡ n → (t : TupleTerm) × Contains tuples t × (t.overload ≡ n)
numbered_at [] k n below e = absurd (omega arith)
numbered_at (t ∷ tuples) zero n below e = (t, (0, omega arith, refl), e)
numbered_at (t ∷ tuples) (suc k) n below e =
    let later = numbered_at tuples k n (omega arith) e in
    (later.0, (suc later.1.0, omega (arith, later.1.1), later.1.2), later.2)

numbered : (tuples : List TupleTerm) (n : ℕ) → Contains (map number_of tuples) n → (t : TupleTerm) × Contains tuples t × (t.overload ≡ n)
numbered tuples n c = let size = length-map tuples number_of in numbered_at tuples c.0 n (omega (arith, c.1)) c.2

module _ (ifaces : List IfaceTerm) (sigs : List SigTerm) (m p : ℕ) (below : p < m) where
  apart_same : (t u : TupleTerm) → StandsFor sigs m t → StandsFor sigs m u → apart_at ifaces p t u ≡ numbers_apart ifaces sigs p t.overload u.overload
  unfolding apart_at numbers_apart
  apart_same t u a b = λ i. types_apart ifaces (a.types p below i) (b.types p below i)

  each_same : (t : TupleTerm) (tuples : List TupleTerm) → StandsFor sigs m t → All (StandsFor sigs m) tuples → list_all (apart_at ifaces p t) tuples ≡ list_all (numbers_apart ifaces sigs p t.overload) (map number_of tuples)
  each_same t [] a all = refl
  each_same t (u ∷ tuples) a all = λ i. apart_same t u a (all 0 u (omega arith)) i && each_same t tuples a (λ k d l. all (suc k) d (omega arith)) i

  two_same : (tuples : List TupleTerm) → All (StandsFor sigs m) tuples → each_two (apart_at ifaces p) tuples ≡ each_two (numbers_apart ifaces sigs p) (map number_of tuples)
  two_same [] all = refl
  two_same (t ∷ tuples) all =
      let later : All (StandsFor sigs m) tuples = λ k d l. all (suc k) d (omega arith) in
      λ i. each_same t tuples (all 0 t (omega arith)) later i && two_same tuples later i

module _ (sigs : List SigTerm) (m : ℕ) where
  differ_same : (t u : TupleTerm) (i j p : ℕ) → p < m → StandsFor sigs m t → StandsFor sigs m u → t.overload ≡ i → u.overload ≡ j → NumbersDifferAt sigs i j p → DifferAt t u p
  differ_same t u i j p below a b is other d =
      let here : NumbersDifferAt sigs t.overload u.overload p = subst (λ k. NumbersDifferAt sigs k u.overload p) (sym is) (subst (λ k. NumbersDifferAt sigs i k p) (sym other) d) in
      elim here [
        | inl types ↦ inl (λ e. types (sym (a.types p below) ∙ e ∙ b.types p below))
        | inr opts ↦ inr (λ e. opts (sym (a.opts p below) ∙ e ∙ b.opts p below))
      ]

  agree_same : (t u : TupleTerm) (index : ℕ) → index ≤ m → StandsFor sigs m t → StandsFor sigs m u → NumbersAgreeBefore sigs index t.overload u.overload → AgreeBefore index t u
  agree_same t u index within a b agree = λ p early. record {
    types = a.types p (omega arith) ∙ (agree p early).types ∙ sym (b.types p (omega arith));
    opts = a.opts p (omega arith) ∙ (agree p early).opts ∙ sym (b.opts p (omega arith));
  }

  all_agree : (t : TupleTerm) (tuples : List TupleTerm) (index : ℕ) → index ≤ m → StandsFor sigs m t → All (StandsFor sigs m) tuples → All (NumbersAgreeBefore sigs index t.overload) (map number_of tuples) → All (AgreeBefore index t) tuples
  all_agree t [] index within a all agree = All-nil (AgreeBefore index t)
  all_agree t (u ∷ tuples) index within a all agree =
      All-cons (AgreeBefore index t) u tuples (agree_same t u index within a (all 0 u (omega arith)) (agree 0 u.overload (omega arith)))
      (all_agree t tuples index within a (λ k d l. all (suc k) d (omega arith)) (λ k d l. agree (suc k) d (omega arith)))

  -- two tuples differ exactly where an overload differs from the first one
  two_differ : (tuples : List TupleTerm) (index : ℕ) (b : Bool) → index ≤ m → All (StandsFor sigs m) tuples → MatchBool b (FirstDiffers sigs index (map number_of tuples)) (AllAgree sigs index (map number_of tuples)) → MatchBool b (TwoDiffer index tuples) (TwoDiffer index tuples → ⊥)
  two_differ tuples index true within all d =
      let one = numbered tuples d.first (first_listed (map number_of tuples) d.first (sym d.is_first)) in
      let other = numbered tuples d.differs.other d.differs.listed in
      let place = d.differs.differ.place in
      let early = d.differs.differ.early in
      record {
        one = one.0;
        other = other.0;
        one_listed = one.1;
        other_listed = other.1;
        differ = record {
          place = place;
          early = early;
          differ = differ_same one.0 other.0 d.first d.differs.other place (omega arith) (All-contains (StandsFor sigs m) tuples one.0 all one.1) (All-contains (StandsFor sigs m) tuples other.0 all other.1) one.2 other.2 d.differs.differ.differ;
        };
      }
  two_differ tuples index false within all agree = by_first (slice_get tuples 0) refl
    where
      by_first : (o : Option TupleTerm) → slice_get tuples 0 ≡ o → TwoDiffer index tuples → ⊥
      by_first None e = none_differ index tuples (sym e)
      by_first (Some t) e = differ_by_first index tuples t false (sym e)
          (all_agree t tuples index within (All-contains (StandsFor sigs m) tuples t all (first_listed tuples t (sym e))) all (agree t.overload (slice_get-map number_of tuples 0 ∙ ap (option_map number_of) e)))

module _ (ifaces : List IfaceTerm) (sigs : List SigTerm) (tuples : List TupleTerm) (m : ℕ) (numbers : List ℕ) (fit : AreOf sigs m numbers (of_one_length m tuples)) where
  same_count : length numbers ≡ length (of_one_length m tuples)
  same_count = ap length fit.are ∙ length-map (of_one_length m tuples) number_of

  same_tell : (p : ℕ) → p < m → numbers_tell ifaces sigs numbers p ≡ distinguishes ifaces tuples m p
  same_tell p below = ap (λ ns. numbers_tell ifaces sigs ns p) fit.are ∙ sym (two_same ifaces sigs m p below (of_one_length m tuples) fit.stand)

  is_index : (place : ℕ) → IsTelling ifaces sigs numbers m place → IsIndex ifaces tuples m place
  is_index place h = let size = same_count in let within = h.within in record {
    several = omega (arith, h.several);
    within = h.within;
    tells = sym (same_tell place h.within) ∙ h.tells;
    lowest = λ p below. sym (same_tell p (omega arith)) ∙ h.lowest p below;
  }

  abbrev IsFound : Option ℕ → Type 0
  IsFound index = MatchOption index (NoneTells ifaces sigs numbers m) (IsTelling ifaces sigs numbers m)

  -- whether the length lacks an index
  pub lacks : (index : Option ℕ) (b : Bool) → IsFound index → MatchOption index (b ≡ nat_le 2 (length numbers)) (λ place. b ≡ false) → MatchBool b (LacksIndex ifaces tuples m) (LacksIndex ifaces tuples m → ⊥)
  lacks None true none is =
      let several : 2 ≤ length numbers = grind arith in
      let size = same_count in
      record { several = omega arith; indistinguishable = λ p below. sym (same_tell p below) ∙ none several p below }
  lacks None false none is = λ h.
      let few : length numbers < 2 = grind arith in
      let size = same_count in
      omega (arith, h.several)
  lacks (Some place) true told is = absurd (cc)
  lacks (Some place) false told is = λ h. not_both (distinguishes ifaces tuples m place) (is_index place told).tells (h.indistinguishable place told.within)

  -- whether tuples of the length differ before its index
  pub early : (index : Option ℕ) (b : Bool) → IsFound index → IsEarly sigs numbers index b → MatchBool b (DifferEarly ifaces tuples m) (DifferEarly ifaces tuples m → ⊥)
  early None true none is = absurd (cc)
  early None false none is = λ h.
      let size = same_count in
      let several : 2 ≤ length numbers = omega (arith, h.is_index.several) in
      not_both (distinguishes ifaces tuples m h.index) h.is_index.tells (sym (same_tell h.index h.is_index.within) ∙ none several h.index h.is_index.within)
  early (Some place) b told is =
      let within = told.within in
      early_by_index ifaces tuples m place b (is_index place told) (two_differ sigs m (of_one_length m tuples) place b (omega arith) fit.stand
      (subst (λ ns. MatchBool b (FirstDiffers sigs place ns) (AllAgree sigs place ns)) fit.are is))
