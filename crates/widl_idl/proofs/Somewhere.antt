-- The first violation at which one of the items of a list breaks, whatever stands before it.
use Rattle.std.proofs.Common.{◌≡◌, ◌⊎◌, inl, inr, ℕ, ◌+◌, ◌<◌, ◌++◌, List, [], ◌∷◌, length, take, get_or, zero, suc, Option, None, arith, refl, sym, ap, subst, ◌∙◌}
use Rattle.std.specs.List.{flat_map}
use Rattle.std.proofs.lemmas.List.{take_more, take_all}
use Rattle.std.proofs.lemmas.Option.{slice_get_read, get_or_from_slice_get}
use Rattle.std.proofs.lemmas.List.Elements.{Contains-append_left, Contains-append_right, Contains-append_cases}
use Rattle.widl_idl.specs.declared.violation.Violation.{Violation}
use Rattle.widl_idl.specs.First.{earlier, FirstWhere, Somewhere, AtOne}
use Rattle.widl_first.specs.First.{Either}
use Rattle.widl_idl.proofs.Order.{first_either, first_same}

module _ {X : Type 0} (P : X → Violation → Type 0) where
  -- nothing breaks in the empty list
  pub nowhere : (s : Violation) → Somewhere P [] s → ⊥
  nowhere s h = absurd (omega (arith, h.listed.1))

  pub somewhere_none : FirstWhere (Somewhere P []) None
  somewhere_none = nowhere

  pub somewhere_left : (xs ys : List X) (s : Violation) → Somewhere P xs s → Somewhere P (xs ++ ys) s
  somewhere_left xs ys s h = record { item = h.item; listed = Contains-append_left xs ys h.item h.listed; breaks = h.breaks }

  pub somewhere_right : (xs ys : List X) (s : Violation) → Somewhere P ys s → Somewhere P (xs ++ ys) s
  somewhere_right xs ys s h = record { item = h.item; listed = Contains-append_right xs ys h.item h.listed; breaks = h.breaks }

  pub somewhere_cases : (xs ys : List X) (s : Violation) → Somewhere P (xs ++ ys) s → Somewhere P xs s ⊎ Somewhere P ys s
  somewhere_cases xs ys s h = elim (Contains-append_cases xs ys h.item h.listed) [ inl l ↦ inl (record { item = h.item; listed = l; breaks = h.breaks }) | inr r ↦ inr (record { item = h.item; listed = r; breaks = h.breaks }) ]

  either_part : (xs ys : List X) → Either (Somewhere P xs) (Somewhere P ys) (Somewhere P (xs ++ ys))
  either_part xs ys = record { left = somewhere_left xs ys; right = somewhere_right xs ys; only = somewhere_cases xs ys }

  -- the least in two lists that are put together is the lesser of the least in each
  pub somewhere_both : (xs ys : List X) (best found : Option Violation) → FirstWhere (Somewhere P xs) best → FirstWhere (Somewhere P ys) found → FirstWhere (Somewhere P (xs ++ ys)) (earlier best found)
  somewhere_both xs ys best found l m = first_either (Somewhere P xs) (Somewhere P ys) (Somewhere P (xs ++ ys)) (either_part xs ys) best found l m

  pub one_item : (x : X) (s : Violation) → Somewhere P (x ∷ []) s → P x s
  one_item x s h = by_place h.listed.0 h.listed.1 h.listed.2
    where
      by_place : (k : ℕ) → k < length (x ∷ []) → get_or (x ∷ []) k h.item ≡ h.item → P x s
      by_place zero l e = subst (λ y. P y s) (sym e) h.breaks
      by_place (suc k) l e = absurd (omega arith)

  -- the least in a list of one item is the least at the item
  pub somewhere_one : (x : X) (found : Option Violation) → FirstWhere (P x) found → FirstWhere (Somewhere P (x ∷ [])) found
  somewhere_one x found l = first_same (P x) (Somewhere P (x ∷ [])) found (λ s b. record { item = x; listed = (0, omega arith, refl); breaks = b }) (one_item x) l

  -- one item more, as a loop over the items has it
  pub somewhere_next : (xs : List X) (n : ℕ) (x : X) (best found now : Option Violation) → n < length xs → x ≡ get_or xs n x → FirstWhere (Somewhere P (take n xs)) best → FirstWhere (P x) found → now ≡ earlier best found → FirstWhere (Somewhere P (take (n + 1) xs)) now
  somewhere_next xs n x best found now l is m h e = subst (FirstWhere (Somewhere P (take (n + 1) xs))) (sym e) (subst (λ ys. FirstWhere (Somewhere P ys) (earlier best found)) (sym (take_more xs n x l ∙ ap (λ y. take n xs ++ y ∷ []) (sym is))) (somewhere_both (take n xs) (x ∷ []) best found m (somewhere_one x found h)))

  -- after the last item
  pub somewhere_all : (xs : List X) (n : ℕ) (best : Option Violation) → n ≡ length xs → FirstWhere (Somewhere P (take n xs)) best → FirstWhere (Somewhere P xs) best
  somewhere_all xs n best e m = subst (λ ys. FirstWhere (Somewhere P ys) best) (take_all n xs (omega arith)) m

  -- the same, told by the indexes of the items
  pub at_one_first : (xs : List X) (found : Option Violation) → FirstWhere (Somewhere P xs) found → FirstWhere (AtOne (λ before x s. P x s) xs) found
  at_one_first xs found l = first_same (Somewhere P xs) (AtOne (λ before x s. P x s) xs) found (somewhere_at xs) (at_somewhere xs) l
    where
      somewhere_at : (xs : List X) (s : Violation) → Somewhere P xs s → AtOne (λ before x s. P x s) xs s
      somewhere_at xs s h = record { index = h.listed.0; below = h.listed.1; item = h.item; is = slice_get_read xs (length xs) h.listed.0 h.item refl h.listed.1 (sym h.listed.2); breaks = h.breaks }

      at_somewhere : (xs : List X) (s : Violation) → AtOne (λ before x s. P x s) xs s → Somewhere P xs s
      at_somewhere xs s u = record { item = u.item; listed = (u.index, u.below, get_or_from_slice_get xs u.index u.item u.item u.is); breaks = u.breaks }

module _ {X Y : Type 0} (P : Y → Violation → Type 0) (f : X → List Y) where
  into_flat : (xs : List X) (s : Violation) → Somewhere (λ x. Somewhere P (f x)) xs s → Somewhere P (flat_map f xs) s
  into_flat [] s h = absurd (nowhere (λ x. Somewhere P (f x)) s h)
  into_flat (x ∷ xs) s h = elim (somewhere_cases (λ x. Somewhere P (f x)) (x ∷ []) xs s h) [ inl l ↦ somewhere_left P (f x) (flat_map f xs) s (one_item (λ x. Somewhere P (f x)) x s l) | inr r ↦ somewhere_right P (f x) (flat_map f xs) s (into_flat xs s r) ]

  out_of_flat : (xs : List X) (s : Violation) → Somewhere P (flat_map f xs) s → Somewhere (λ x. Somewhere P (f x)) xs s
  out_of_flat [] s h = absurd (nowhere P s h)
  out_of_flat (x ∷ xs) s h = elim (somewhere_cases P (f x) (flat_map f xs) s h) [ inl l ↦ record { item = x; listed = (0, omega arith, refl); breaks = l } | inr r ↦ somewhere_right (λ x. Somewhere P (f x)) (x ∷ []) xs s (out_of_flat xs s r) ]

  -- the least in a list of lists is the least in the lists put together
  pub first_flat : (xs : List X) (found : Option Violation) → FirstWhere (Somewhere (λ x. Somewhere P (f x)) xs) found → FirstWhere (Somewhere P (flat_map f xs)) found
  first_flat xs found l = first_same (Somewhere (λ x. Somewhere P (f x)) xs) (Somewhere P (flat_map f xs)) found (into_flat xs) (out_of_flat xs) l
