-- What a key finds among entries, and among them in order.
use Rattle.std.proofs.Common.{◌≡◌, ℕ, zero, suc, ◌<◌, ◌≤◌, Bool, true, false, if◌then◌else◌, Option, Some, None, List, [], ◌∷◌, ◌++◌, length, refl, sym, ◌∙◌, ap, subst, inl, inr, ◌⊎◌, arith, map, filter}
use Rattle.std.specs.Prelude.{Contains, not}
use Rattle.std.specs.Map.{lookup, keys_of}
use Rattle.std.specs.List.{IsDistinct, swap_remove, slice_get}
use Rattle.std.specs.List.Sorted.{IsPermutation}
use Rattle.std.proofs.lemmas.List.Sorted.{IsPermutation-swap_remove, IsPermutation-sym, Contains-permutation}
use Rattle.std.proofs.lemmas.Map.Entries.{lookup_from_place}
use Rattle.std.proofs.lemmas.Option.{slice_get-get_or, slice_get_within, get_or_from_slice_get}
use Rattle.std.specs.Option.{option_map}
use Rattle.std.proofs.lemmas.Bool.{cases_lt}
use Rattle.widl_text.specs.declared.key.Key.{Key}
use Rattle.widl_store.specs.Created.{Created}
use Rattle.widl_store.specs.Leaving.{Leaves}
use Rattle.widl_store.specs.Objects.{same_key, is_other}
use Rattle.widl_store.specs.Order.{Entry, at, listed, gathered, shown, in_order}
use Rattle.widl_store.proofs.KeyEquality.{key_true, key_same, same_key_equiv}
use Rattle.widl_store.proofs.Creation.{AllBelow, EachOnce, in_cons, in_head, in_tail, nobody, at_in, in_at}

-- 4. what a key finds
pub lookup_in : (key : Key) (es : List Entry) (e : Entry) → Contains es e → lookup (same_key key) es ≡ None → same_key key e.0 ≡ false
lookup_in key [] e h none = absurd (nobody e h)
lookup_in key (x ∷ es) e h none = go (same_key key x.0) refl (λ i k. lookup_in key es e i k)
  where
    go : (b : Bool) → same_key key x.0 ≡ b → (Contains es e → lookup (same_key key) es ≡ None → same_key key e.0 ≡ false) → same_key key e.0 ≡ false
    go true t rest = absurd (let bad : Some x.1 ≡ None = ap (λ b. if b then Some x.1 else lookup (same_key key) es) (sym t) ∙ none in cc)
    go false t rest = elim (in_cons x e es h) [
      | inl same ↦ ap (λ y. same_key key y.0) (sym same) ∙ t
      | inr further ↦ rest further (ap (λ b. if b then Some x.1 else lookup (same_key key) es) (sym t) ∙ none)
    ]

pub pair_is : (x y : Entry) → x.0 ≡ y.0 → x.1 ≡ y.1 → x ≡ y
pair_is x y e f = λ i. (e i, f i)

-- the entry that a key finds
pub finds : (key : Key) (es : List Entry) (h : Created) → lookup (same_key key) es ≡ Some h → Contains es (key, h)
finds key [] h e = absurd (let bad : None ≡ Some h = e in cc)
finds key (x ∷ es) h e = go (same_key key x.0) refl (finds key es h)
  where
    go : (b : Bool) → same_key key x.0 ≡ b → (lookup (same_key key) es ≡ Some h → Contains es (key, h)) → Contains (x ∷ es) (key, h)
    go true t rest =
        let prop : x.1 ≡ h = let f : Some x.1 ≡ Some h = ap (λ b. if b then Some x.1 else lookup (same_key key) es) (sym t) ∙ e in cc in
        let same : x ≡ (key, h) = pair_is x (key, h) (sym (key_true key x.0 t)) prop in
        subst (Contains (x ∷ es)) same (in_head x es)
    go false t rest = in_tail x (key, h) es (rest (ap (λ b. if b then Some x.1 else lookup (same_key key) es) (sym t) ∙ e))

pub lookup_append : (key : Key) (xs ys : List Entry) → lookup (same_key key) xs ≡ None → lookup (same_key key) (xs ++ ys) ≡ lookup (same_key key) ys
lookup_append key [] ys e = refl
lookup_append key (x ∷ xs) ys e = go (same_key key x.0) refl (lookup_append key xs ys)
  where
    go : (b : Bool) → same_key key x.0 ≡ b → (lookup (same_key key) xs ≡ None → lookup (same_key key) (xs ++ ys) ≡ lookup (same_key key) ys) → lookup (same_key key) ((x ∷ xs) ++ ys) ≡ lookup (same_key key) ys
    go true t rest = absurd (let bad : Some x.1 ≡ None = ap (λ b. if b then Some x.1 else lookup (same_key key) xs) (sym t) ∙ e in cc)
    go false t rest = ap (λ b. if b then Some x.1 else lookup (same_key key) (xs ++ ys)) t ∙ rest (ap (λ b. if b then Some x.1 else lookup (same_key key) xs) (sym t) ∙ e)

pub lookup_before : (key : Key) (xs ys : List Entry) (h : Created) → lookup (same_key key) xs ≡ Some h → lookup (same_key key) (xs ++ ys) ≡ Some h
lookup_before key [] ys h e = absurd (let bad : None ≡ Some h = e in cc)
lookup_before key (x ∷ xs) ys h e = go (same_key key x.0) refl (lookup_before key xs ys h)
  where
    go : (b : Bool) → same_key key x.0 ≡ b → (lookup (same_key key) xs ≡ Some h → lookup (same_key key) (xs ++ ys) ≡ Some h) → lookup (same_key key) ((x ∷ xs) ++ ys) ≡ Some h
    go true t rest = ap (λ b. if b then Some x.1 else lookup (same_key key) (xs ++ ys)) t ∙ ap (λ b. if b then Some x.1 else lookup (same_key key) xs) (sym t) ∙ e
    go false t rest = ap (λ b. if b then Some x.1 else lookup (same_key key) (xs ++ ys)) t ∙ rest (ap (λ b. if b then Some x.1 else lookup (same_key key) xs) (sym t) ∙ e)

pub listed_none : (key : Key) (n : ℕ) (es : List Entry) → ((e : Entry) → at n es ≡ Some e → same_key key e.0 ≡ false) → lookup (same_key key) (listed (at n es)) ≡ None
listed_none key n es none = go (at n es) refl
  where
    go : (o : Option Entry) → at n es ≡ o → lookup (same_key key) (listed o) ≡ None
    go None f = refl
    go (Some e) f = ap (λ b. if b then Some e.1 else None) (none e f)

-- a key that no entry below the number has
pub gathered_none : (key : Key) (n : ℕ) (es : List Entry) → ((k : ℕ) (e : Entry) → k < n → at k es ≡ Some e → same_key key e.0 ≡ false) → lookup (same_key key) (gathered n es) ≡ None
unfolding gathered
gathered_none key zero es none = refl
gathered_none key (suc n) es none =
    lookup_append key (gathered n es) (listed (at n es)) (gathered_none key n es (λ k e lt. none k e (omega arith)))
    ∙ listed_none key n es (λ e. none n e (omega arith))

-- and one that one of them has
pub gathered_some : (key : Key) (n : ℕ) (es : List Entry) (h : Created) → same_key key key ≡ true → ((k : ℕ) (e : Entry) → at k es ≡ Some e → same_key key e.0 ≡ true → k ≡ h.number) → at h.number es ≡ Some (key, h) → h.number < n → lookup (same_key key) (gathered n es) ≡ Some h
unfolding gathered
gathered_some key zero es h self one there lt = absurd (omega arith)
gathered_some key (suc n) es h self one there lt = go (cases_lt h.number n) (gathered_some key n es h self one there)
  where
    fails : (k : ℕ) (e : Entry) → k < h.number → at k es ≡ Some e → same_key key e.0 ≡ false
    fails k e less f = by (same_key key e.0) refl
      where
        by : (b : Bool) → same_key key e.0 ≡ b → b ≡ false
        by true t = absurd (omega (arith, one k e f t))
        by false t = refl

    go : (h.number < n) ⊎ (n ≤ h.number) → (h.number < n → lookup (same_key key) (gathered n es) ≡ Some h) → lookup (same_key key) (gathered (suc n) es) ≡ Some h
    go (inl less) rest = lookup_before key (gathered n es) (listed (at n es)) h (rest less)
    go (inr le) rest =
        let same : n ≡ h.number = omega arith in
        let here : at n es ≡ Some (key, h) = ap (λ k. at k es) same ∙ there in
        lookup_append key (gathered n es) (listed (at n es)) (gathered_none key n es (λ k e less. fails k e (omega arith)))
        ∙ ap (λ o. lookup (same_key key) (listed o)) here ∙ ap (λ b. if b then Some h else None) self

pub lookup_shown : (key : Key) (es : List Entry) → lookup (same_key key) (map shown es) ≡ option_map (λ h. h.prop) (lookup (same_key key) es)
lookup_shown key [] = refl
lookup_shown key (e ∷ es) = go (same_key key e.0) (lookup_shown key es)
  where
    go : (b : Bool) → lookup (same_key key) (map shown es) ≡ option_map (λ h. h.prop) (lookup (same_key key) es) → (if b then Some e.1.prop else lookup (same_key key) (map shown es)) ≡ option_map (λ h. h.prop) (if b then Some e.1 else lookup (same_key key) es)
    go true rest = refl
    go false rest = rest

pub found_in_order : (key : Key) (n : ℕ) (es : List Entry) → AllBelow n es → EachOnce es → ((e : Entry) → Contains es e → lookup (same_key e.0) es ≡ Some e.1) → lookup (same_key key) (in_order n es) ≡ option_map (λ h. h.prop) (lookup (same_key key) es)
found_in_order key n es below once keys = lookup_shown key (gathered n es) ∙ ap (option_map (λ h. h.prop)) (go (lookup (same_key key) es) refl)
  where
    go : (o : Option Created) → lookup (same_key key) es ≡ o → lookup (same_key key) (gathered n es) ≡ lookup (same_key key) es
    go None e = gathered_none key n es (λ k f lt h. lookup_in key es f (at_in k es f h).0 e) ∙ sym e
    go (Some h) e =
        let there = finds key es h e in
        gathered_some key n es h (key_same key key refl)
        (λ k f a t. let r = at_in k es f a in let same : key ≡ f.0 = key_true key f.0 t in let prop : Some f.1 ≡ Some h = sym (keys f r.0) ∙ ap (λ x. lookup (same_key x) es) (sym same) ∙ e in let number : f.1.number ≡ h.number = cc in sym r.1 ∙ number)
        (in_at h.number es (key, h) once there refl) (below (key, h) there)
        ∙ sym e

-- an entry is what its key finds
pub keys_once : (es : List Entry) → IsDistinct same_key (keys_of es) → (e : Entry) → Contains es e → lookup (same_key e.0) es ≡ Some e.1
keys_once es distinct e (k, lt, is) = lookup_from_place same_key_equiv es k e.0 e.1 distinct (slice_get-get_or es k e lt ∙ ap Some is)

-- the entry at the index is removed, and the last one takes its place
pub removed_leaves : (key : Key) (i : ℕ) (x : Entry) (es fs : List Entry) → same_key key x.0 ≡ true → slice_get es i ≡ Some x → fs ≡ swap_remove es i x → lookup (same_key key) fs ≡ None → Leaves (λ e. not (same_key key e.0)) es fs
removed_leaves key i x es fs here at_i is gone =
    let lt : i < length es = slice_get_within es i x at_i in
    let moved : IsPermutation es (x ∷ fs) = subst (λ l. IsPermutation es (x ∷ l)) (sym is) (IsPermutation-swap_remove es i x lt (sym (get_or_from_slice_get es i x x at_i))) in
    record {
      sub = λ e h. Contains-permutation (x ∷ fs) es e (IsPermutation-sym es (x ∷ fs) moved) (in_tail x e fs h);
      pass = λ e h. ap not (lookup_in key fs e h gone);
      kept = λ e h p. elim (in_cons x e fs (Contains-permutation es (x ∷ fs) e moved h)) [
        | inl same ↦ absurd (let bad : not true ≡ true = ap not (sym here ∙ ap (λ y. same_key key y.0) same) ∙ p in cc)
        | inr rest ↦ rest
      ];
    }

pub nothing_leaves : (key : Key) (es : List Entry) → lookup (same_key key) es ≡ None → Leaves (λ e. not (same_key key e.0)) es es
nothing_leaves key es none = record { sub = λ e h. h; pass = λ e h. ap not (lookup_in key es e h none); kept = λ e h p. h }

pub filter_shown : (key : Key) (es : List Entry) → map shown (filter (λ e. not (same_key key e.0)) es) ≡ filter (is_other key) (map shown es)
filter_shown key [] = refl
filter_shown key (e ∷ es) = go (not (same_key key e.0)) (filter_shown key es)
  where
    go : (b : Bool) → map shown (filter (λ e. not (same_key key e.0)) es) ≡ filter (is_other key) (map shown es) → map shown (if b then e ∷ filter (λ e. not (same_key key e.0)) es else filter (λ e. not (same_key key e.0)) es) ≡ (if b then shown e ∷ filter (is_other key) (map shown es) else filter (is_other key) (map shown es))
    go true rest = ap (λ r. shown e ∷ r) rest
    go false rest = rest
