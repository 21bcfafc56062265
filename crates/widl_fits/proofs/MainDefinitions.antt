-- The main definitions of a kind by their numbers among these, and which of them a name means.
use Rattle.std.proofs.Common.{◌≡◌, ℕ, zero, suc, ◌+◌, ◌-◌, ◌<◌, ◌≤◌, Bool, true, false, ◌&&◌, cond, not, List, [], ◌∷◌, length, take, filter, None, Some, option_map, slice_get, arith, refl, sym, ap, ◌∙◌}
use Rattle.std.specs.Prelude.{option_and_then}
use Rattle.std.proofs.lemmas.Option.{same_Some}
use Rattle.widl_idl.specs.declared.kind.Kind.{Kind}
use Rattle.widl_idl.specs.Meanings.{declared_name, is_partial, is_text_of, kind_of, main_name, meaning, meaning_from, meant_kind, same_kind}
use Rattle.widl_idl.specs.PlainTrees.{PlainDefinition, PlainKind}
use Rattle.widl_idl.specs.WrittenTypes.{is_main_of}

-- 1. Items that pass a test, by their numbers among these

module _ {X : Type 0} (test : X → Bool) where
  -- the place of the item of this number
  abbrev pub place_of : List X → ℕ → ℕ
  place_of [] n = 0
  place_of (x ∷ xs) zero = cond (test x) 0 (suc (place_of xs 0))
  place_of (x ∷ xs) (suc n) = suc (cond (test x) (place_of xs n) (place_of xs (suc n)))

  counted : (x : X) (xs : List X) (b : Bool) → test x ≡ b → length (filter test (x ∷ xs)) ≡ cond b (suc (length (filter test xs))) (length (filter test xs))
  counted x xs true e = ap (λ b. length (cond b (x ∷ filter test xs) (filter test xs))) e
  counted x xs false e = ap (λ b. length (cond b (x ∷ filter test xs) (filter test xs))) e

  passed_over : (x : X) (xs : List X) (n : ℕ) → test x ≡ false → place_of (x ∷ xs) n ≡ suc (place_of xs n)
  passed_over x xs zero e = ap (λ b. cond b 0 (suc (place_of xs 0))) e
  passed_over x xs (suc n) e = ap (λ b. suc (cond b (place_of xs n) (place_of xs (suc n)))) e

  pub at_place : (xs : List X) (n : ℕ) (x : X) → slice_get (filter test xs) n ≡ Some x → (slice_get xs (place_of xs n) ≡ Some x) × (test x ≡ true)
  at_place [] n x e = absurd (let f : None ≡ Some x = e in (cc))
  at_place (y ∷ xs) n x e = by_test (test y) refl n e (λ m f. at_place xs m x f)
    where
      by_test : (b : Bool) → test y ≡ b → (n : ℕ) → slice_get (cond b (y ∷ filter test xs) (filter test xs)) n ≡ Some x → ((m : ℕ) → slice_get (filter test xs) m ≡ Some x → (slice_get xs (place_of xs m) ≡ Some x) × (test x ≡ true)) → (slice_get (y ∷ xs) (place_of (y ∷ xs) n) ≡ Some x) × (test x ≡ true)
      by_test true is zero f later = (ap (slice_get (y ∷ xs)) (ap (λ b. cond b 0 (suc (place_of xs 0))) is) ∙ f, ap test (sym (same_Some y x f)) ∙ is)
      by_test true is (suc m) f later = let r = later m f in (ap (λ b. slice_get xs (cond b (place_of xs m) (place_of xs (suc m)))) is ∙ r.0, r.1)
      by_test false is m f later = let r = later m f in (ap (slice_get (y ∷ xs)) (passed_over y xs m is) ∙ r.0, r.1)

  pub place_at : (xs : List X) (k : ℕ) (x : X) → slice_get xs k ≡ Some x → test x ≡ true → place_of xs (length (filter test (take k xs))) ≡ k
  place_at [] k x e is = absurd (let f : None ≡ Some x = e in (cc))
  place_at (y ∷ xs) zero x e is = ap (λ b. cond b 0 (suc (place_of xs 0))) (ap test (same_Some y x e) ∙ is)
  place_at (y ∷ xs) (suc k) x e is = by_test (test y) refl (place_at xs k x e is)
    where
      by_test : (b : Bool) → test y ≡ b → place_of xs (length (filter test (take k xs))) ≡ k → place_of (y ∷ xs) (length (filter test (y ∷ take k xs))) ≡ suc k
      by_test true h r = let n = length (filter test (take k xs)) in ap (place_of (y ∷ xs)) (counted y (take k xs) true h) ∙ ap (λ b. suc (cond b (place_of xs n) (place_of xs (suc n)))) h ∙ ap suc r
      by_test false h r = let n = length (filter test (take k xs)) in ap (place_of (y ∷ xs)) (counted y (take k xs) false h) ∙ passed_over y xs n h ∙ ap suc r

  pub count_below : (xs : List X) (k : ℕ) (x : X) → slice_get xs k ≡ Some x → test x ≡ true → length (filter test (take k xs)) < length (filter test xs)
  count_below [] k x e is = absurd (let f : None ≡ Some x = e in (cc))
  count_below (y ∷ xs) zero x e is = let c = counted y xs true (ap test (same_Some y x e) ∙ is) in omega (arith, c)
  count_below (y ∷ xs) (suc k) x e is = by_test (test y) refl (count_below xs k x e is)
    where
      by_test : (b : Bool) → test y ≡ b → length (filter test (take k xs)) < length (filter test xs) → length (filter test (take (suc k) (y ∷ xs))) < length (filter test (y ∷ xs))
      by_test true h l = let c = counted y (take k xs) true h in let t = counted y xs true h in omega (arith, c, t, l)
      by_test false h l = let c = counted y (take k xs) false h in let t = counted y xs false h in omega (arith, c, t, l)

-- 2. What a name means

named_main : (text : List ℕ) (kind : PlainKind) → is_text_of text (main_name kind) ≡ true → is_partial kind ≡ false
named_main text kind e = by_partial (is_partial kind) refl
  where
    by_partial : (b : Bool) → is_partial kind ≡ b → b ≡ false
    by_partial true h = absurd (let f : false ≡ true = ap (λ b. is_text_of text (cond b None (declared_name kind))) (sym h) ∙ e in (cc))
    by_partial false h = refl

named_from : (n : ℕ) (xs : List PlainDefinition) (text : List ℕ) (k : ℕ) → meaning_from n xs text ≡ Some k → (d : PlainDefinition) × (n ≤ k) × (slice_get xs (k - n) ≡ Some d) × (is_partial d.kind ≡ false)
named_from n [] text k e = absurd (let f : None ≡ Some k = e in (cc))
named_from n (d ∷ xs) text k e = by_text (is_text_of text (main_name d.kind)) refl (λ f. named_from (n + 1) xs text k f) e
  where
    by_text : (b : Bool) → is_text_of text (main_name d.kind) ≡ b → (meaning_from (n + 1) xs text ≡ Some k → (x : PlainDefinition) × (n + 1 ≤ k) × (slice_get xs (k - (n + 1)) ≡ Some x) × (is_partial x.kind ≡ false)) → cond b (Some n) (meaning_from (n + 1) xs text) ≡ Some k → (x : PlainDefinition) × (n ≤ k) × (slice_get (d ∷ xs) (k - n) ≡ Some x) × (is_partial x.kind ≡ false)
    by_text true h later f =
        let same : n ≡ k = same_Some n k f in
        let start : 0 ≡ k - n = omega (arith, same) in
        (d, omega (arith, same), ap (slice_get (d ∷ xs)) (sym start), named_main text d.kind h)
    by_text false h later f =
        let r = later f in
        let next : suc (k - (n + 1)) ≡ k - n = omega (arith, r.1) in
        (r.0, omega (arith, r.1), ap (slice_get (d ∷ xs)) (sym next) ∙ r.2, r.3)

-- it means a main definition of its kind
pub meant_main : (definitions : List PlainDefinition) (kind : Kind) → same_kind kind kind ≡ true → (text : List ℕ) (k : ℕ) → meaning definitions text ≡ Some k → meant_kind definitions text ≡ Some kind → (d : PlainDefinition) × (slice_get definitions k ≡ Some d) × (is_main_of kind d ≡ true)
meant_main definitions kind own text k means e =
    let r = named_from 0 definitions text k means in
    let plain : k - 0 ≡ k = omega arith in
    let here : slice_get definitions k ≡ Some r.0 = ap (slice_get definitions) (sym plain) ∙ r.2 in
    let seen : meant_kind definitions text ≡ Some (kind_of r.0.kind) = ap (λ m. option_map kind_of (option_map (λ d. d.kind) (option_and_then (slice_get definitions) m))) means ∙ ap (λ o. option_map kind_of (option_map (λ d. d.kind) o)) here in
    let its_kind : kind_of r.0.kind ≡ kind = same_Some (kind_of r.0.kind) kind (sym seen ∙ e) in
    (r.0, here, (λ j. same_kind kind (its_kind j) && not (r.3 j)) ∙ ap (λ b. b && true) own)
