-- Properties of an object that has few: a walk over them, a change at a place, and what stays told apart.
use Rattle.std.proofs.Common.{◌≡◌, ℕ, zero, suc, ◌+◌, ◌<◌, ◌≤◌, Bool, true, false, if◌then◌else◌, Option, Some, None, List, [], ◌∷◌, ◌++◌, length, get_or, take, drop, refl, sym, ◌∙◌, ap, subst, arith, map, filter}
use Rattle.std.specs.Prelude.{not, ◌||◌}
use Rattle.std.specs.List.{AllByRecursion, IsDistinct, list_any, remove, slice_get, slice_set}
use Rattle.std.specs.Map.{lookup, keys_of}
use Rattle.std.proofs.lemmas.List.{drop_all}
use Rattle.std.proofs.lemmas.Option.{slice_get-get_or, get_or_from_slice_get}
use Rattle.std.proofs.lemmas.Map.Entries.{lookup_from_place}
use Rattle.std.proofs.lemmas.Map.Keys.{IsDistinct-push, IsDistinct-head, IsDistinct-tail}
use Rattle.std.proofs.lemmas.Map.Made.{IsDistinct-keys_filter}
use Rattle.widl_text.specs.declared.key.Key.{Key}
use Rattle.widl_store.specs.declared.property.Prop.{Prop}
use Rattle.widl_store.specs.declared.property.Prop.TheVariants.{Accessor}
use Rattle.widl_text.specs.declared.key.Key.TheVariants.{Sym}
use Rattle.widl_store.specs.Objects.{all_flags, same_key, prop_at, replaced, is_other, without_prop}
use Rattle.widl_store.specs.PropertyForms.{HasEachOnce}
use Rattle.widl_store.proofs.KeyEquality.{key_true, key_same, same_key_equiv}

abbrev pub Few : Type 0
Few = List (Key × Prop)

-- a walk that hasn't found the key yet
pub walk_on : (key : Key) (es : Few) (i : ℕ) (e : Key × Prop) → slice_get es i ≡ Some e → same_key key e.0 ≡ false → prop_at (drop i es) key ≡ prop_at (drop (suc i) es) key
walk_on key [] i e at other = absurd (let bad : None ≡ Some e = at in cc)
walk_on key (x ∷ es) zero e at other =
    let same : x ≡ e = let f : Some x ≡ Some e = at in cc in
    ap (λ b. if b then Some x.1 else lookup (same_key key) es) (ap (λ y. same_key key y.0) same ∙ other)
walk_on key (x ∷ es) (suc i) e at other = walk_on key es i e at other

-- what a place tells
pub at_place : (key : Key) (es : Few) (i : ℕ) (e : Key × Prop) → HasEachOnce es → slice_get es i ≡ Some e → same_key key e.0 ≡ true → prop_at es key ≡ Some e.1
at_place key es i e once at here =
    ap (λ k. lookup (same_key k) es) (key_true key e.0 here) ∙ lookup_from_place same_key_equiv es i e.0 e.1 once at

-- keys that aren't held
pub absent_from : (key : Key) (es : Few) → AllByRecursion (λ y. same_key key y ≡ false) (keys_of es) → prop_at es key ≡ None
absent_from key [] h = refl
absent_from key (e ∷ es) h = ap (λ b. if b then Some e.1 else lookup (same_key key) es) h.0 ∙ absent_from key es h.1

pub absent_head : (key : Key) (x : Key × Prop) (es : Few) → HasEachOnce (x ∷ es) → same_key key x.0 ≡ true → prop_at es key ≡ None
absent_head key x es once here =
    ap (λ k. lookup (same_key k) es) (key_true key x.0 here) ∙ absent_from x.0 es (IsDistinct-head same_key x.0 (keys_of es) once)

pub once_tail : (x : Key × Prop) (es : Few) → HasEachOnce (x ∷ es) → HasEachOnce es
once_tail x es once = IsDistinct-tail same_key x.0 (keys_of es) once

pub not_here : (key : Key) (x : Key × Prop) (es : Few) → prop_at (x ∷ es) key ≡ None → (same_key key x.0 ≡ false) × (prop_at es key ≡ None)
not_here key x es none = go (same_key key x.0) refl
  where
    go : (b : Bool) → same_key key x.0 ≡ b → (same_key key x.0 ≡ false) × (prop_at es key ≡ None)
    go true t = absurd (let bad : Some x.1 ≡ None = ap (λ b. if b then Some x.1 else lookup (same_key key) es) (sym t) ∙ none in cc)
    go false t = (t, ap (λ b. if b then Some x.1 else lookup (same_key key) es) (sym t) ∙ none)

pub replaced_absent : (key : Key) (prop : Prop) (es : Few) → prop_at es key ≡ None → map (replaced key prop) es ≡ es
replaced_absent key prop [] none = refl
replaced_absent key prop (x ∷ es) none =
    let r = not_here key x es none in
    ap (λ b. (if b then (x.0, prop) else x) ∷ map (replaced key prop) es) r.0 ∙ ap (λ l. x ∷ l) (replaced_absent key prop es r.1)

pub removed_absent : (key : Key) (es : Few) → prop_at es key ≡ None → without_prop es key ≡ es
removed_absent key [] none = refl
removed_absent key (x ∷ es) none =
    let r = not_here key x es none in
    ap (λ b. if not b then x ∷ without_prop es key else without_prop es key) r.0 ∙ ap (λ l. x ∷ l) (removed_absent key es r.1)

-- the key of another place is another
pub other_at : (key : Key) (x : Key × Prop) (es : Few) (i : ℕ) (e : Key × Prop) → HasEachOnce (x ∷ es) → slice_get es i ≡ Some e → same_key key e.0 ≡ true → same_key key x.0 ≡ false
other_at key x es i e once at here = go (same_key key x.0) refl
  where
    go : (b : Bool) → same_key key x.0 ≡ b → b ≡ false
    go true t = absurd (let bad : None ≡ Some e.1 = sym (absent_head key x es once t) ∙ at_place key es i e (once_tail x es once) at here in cc)
    go false t = refl

-- 1. a change at the place of the key
pub set_at_place : (key : Key) (prop : Prop) (es : Few) (i : ℕ) (e : Key × Prop) → HasEachOnce es → slice_get es i ≡ Some e → same_key key e.0 ≡ true → slice_set es i (e.0, prop) ≡ map (replaced key prop) es
set_at_place key prop [] i e once at here = absurd (let bad : None ≡ Some e = at in cc)
set_at_place key prop (x ∷ es) zero e once at here =
    let same : x ≡ e = let f : Some x ≡ Some e = at in cc in
    let test : same_key key x.0 ≡ true = ap (λ y. same_key key y.0) same ∙ here in
    ap (λ k. (k, prop) ∷ es) (ap (λ y. y.0) (sym same))
    ∙ ap (λ l. (x.0, prop) ∷ l) (sym (replaced_absent key prop es (absent_head key x es once test)))
    ∙ ap (λ b. (if b then (x.0, prop) else x) ∷ map (replaced key prop) es) (sym test)
set_at_place key prop (x ∷ es) (suc i) e once at here =
    ap (λ l. x ∷ l) (set_at_place key prop es i e (once_tail x es once) at here)
    ∙ ap (λ b. (if b then (x.0, prop) else x) ∷ map (replaced key prop) es) (sym (other_at key x es i e once at here))

pub replaced_keys : (key : Key) (prop : Prop) (es : Few) → keys_of (map (replaced key prop) es) ≡ keys_of es
replaced_keys key prop [] = refl
replaced_keys key prop (x ∷ es) = go (same_key key x.0) (replaced_keys key prop es)
  where
    go : (b : Bool) → keys_of (map (replaced key prop) es) ≡ keys_of es → (if b then (x.0, prop) else x).0 ∷ keys_of (map (replaced key prop) es) ≡ x.0 ∷ keys_of es
    go true rest = ap (λ l. x.0 ∷ l) rest
    go false rest = ap (λ l. x.0 ∷ l) rest

pub replaced_once : (key : Key) (prop : Prop) (es fs : Few) → fs ≡ map (replaced key prop) es → HasEachOnce es → HasEachOnce fs
replaced_once key prop es fs is once = subst (IsDistinct same_key) (sym (ap keys_of is ∙ replaced_keys key prop es)) once

-- 2. a removal at the place of the key
pub removed_at_place : (key : Key) (es : Few) (i : ℕ) (e : Key × Prop) → HasEachOnce es → slice_get es i ≡ Some e → same_key key e.0 ≡ true → remove es i ≡ without_prop es key
removed_at_place key [] i e once at here = absurd (let bad : None ≡ Some e = at in cc)
removed_at_place key (x ∷ es) zero e once at here =
    let same : x ≡ e = let f : Some x ≡ Some e = at in cc in
    let test : same_key key x.0 ≡ true = ap (λ y. same_key key y.0) same ∙ here in
    sym (removed_absent key es (absent_head key x es once test))
    ∙ ap (λ b. if not b then x ∷ without_prop es key else without_prop es key) (sym test)
removed_at_place key (x ∷ es) (suc i) e once at here =
    ap (λ l. x ∷ l) (removed_at_place key es i e (once_tail x es once) at here)
    ∙ ap (λ b. if not b then x ∷ without_prop es key else without_prop es key) (sym (other_at key x es i e once at here))

pub removed_once : (key : Key) (es fs : Few) → fs ≡ without_prop es key → HasEachOnce es → HasEachOnce fs
removed_once key es fs is once = subst HasEachOnce (sym is) (IsDistinct-keys_filter same_key (is_other key) es once)

-- 3. a new property
pub keys_append : (es fs : Few) → keys_of (es ++ fs) ≡ keys_of es ++ keys_of fs
keys_append [] fs = refl
keys_append (e ∷ es) fs = ap (λ l. e.0 ∷ l) (keys_append es fs)

pub no_key_passes : (key : Key) (es : Few) → prop_at es key ≡ None → list_any (same_key key) (keys_of es) ≡ false
no_key_passes key [] none = refl
no_key_passes key (x ∷ es) none =
    let r = not_here key x es none in
    ap (λ b. b || list_any (same_key key) (keys_of es)) r.0 ∙ no_key_passes key es r.1

pub pushed_once : (key : Key) (prop : Prop) (es fs : Few) → fs ≡ es ++ (key, prop) ∷ [] → prop_at es key ≡ None → HasEachOnce es → HasEachOnce fs
pushed_once key prop es fs is none once =
    subst (IsDistinct same_key) (sym (ap keys_of is ∙ keys_append es ((key, prop) ∷ [])))
    (IsDistinct-push same_key_equiv (keys_of es) key once (no_key_passes key es none))

-- 4. the properties before a place lack its key
pub absent_before : (es : Few) (i : ℕ) (e : Key × Prop) → HasEachOnce es → slice_get es i ≡ Some e → prop_at (take i es) e.0 ≡ None
absent_before [] i e once at = absurd (let bad : None ≡ Some e = at in cc)
absent_before (x ∷ es) zero e once at = refl
absent_before (x ∷ es) (suc i) e once at =
    ap (λ b. if b then Some x.1 else prop_at (take i es) e.0) (other_at e.0 x es i e once at (key_same e.0 e.0 refl))
    ∙ absent_before es i e (once_tail x es once) at

-- 5. the same where the place is told by an index
abbrev pub nothing : Key × Prop
nothing = (Sym 0, Accessor None None all_flags)

pub walk_past : (key : Key) (es : Few) (i : ℕ) (d : Key × Prop) → i < length es → same_key key (get_or es i d).0 ≡ false → prop_at (drop i es) key ≡ prop_at es key → prop_at (drop (i + 1) es) key ≡ prop_at es key
walk_past key es i d lt other h =
    let next : suc i ≡ i + 1 = omega arith in
    subst (λ k. prop_at (drop k es) key ≡ prop_at es key) next (sym (walk_on key es i (get_or es i d) (slice_get-get_or es i d lt) other) ∙ h)

pub walk_end : (key : Key) (es : Few) (i : ℕ) → length es ≤ i → prop_at (drop i es) key ≡ prop_at es key → prop_at es key ≡ None
walk_end key es i le h = sym h ∙ ap (λ l. prop_at l key) (drop_all i es le)

pub here_at : (key : Key) (es : Few) (i : ℕ) (r d : Key × Prop) → i < length es → same_key key (get_or es i r).0 ≡ true → same_key key (get_or es i d).0 ≡ true
here_at key es i r d lt here = ap (λ y. same_key key y.0) (get_or_from_slice_get es i (get_or es i r) d (slice_get-get_or es i r lt)) ∙ here

pub found_at_place : (key : Key) (es : Few) (i : ℕ) (d : Key × Prop) → HasEachOnce es → i < length es → ((d : Key × Prop) → same_key key (get_or es i d).0 ≡ true) → Some (get_or es i d).1 ≡ prop_at es key
found_at_place key es i d once lt here = sym (at_place key es i (get_or es i d) once (slice_get-get_or es i d lt) (here d))

pub set_found : (key : Key) (prop : Prop) (es : Few) (i : ℕ) (r : Key × Prop) → HasEachOnce es → i < length es → ((d : Key × Prop) → same_key key (get_or es i d).0 ≡ true) → r ≡ get_or es i r → slice_set es i (r.0, prop) ≡ map (replaced key prop) es
set_found key prop es i r once lt here is = set_at_place key prop es i r once (slice_get-get_or es i r lt ∙ ap Some (sym is)) (ap (λ y. same_key key y.0) is ∙ here r)

pub removed_found : (key : Key) (es : Few) (i : ℕ) → HasEachOnce es → i < length es → ((d : Key × Prop) → same_key key (get_or es i d).0 ≡ true) → remove es i ≡ without_prop es key
removed_found key es i once lt here = removed_at_place key es i (get_or es i nothing) once (slice_get-get_or es i nothing lt) (here nothing)

abbrev pub IsAt : Key → Few → ℕ → Type 0
IsAt key es i = (i < length es) × ((d : Key × Prop) → same_key key (get_or es i d).0 ≡ true)

pub at_in_same : (key : Key) (es fs : Few) (i : ℕ) → fs ≡ es → IsAt key fs i → IsAt key es i
at_in_same key es fs i is h = subst (λ (l : Few). IsAt key l i) is h

-- the key of an item isn't among those before it
pub absent_item : (es : Few) (i : ℕ) (r : Key × Prop) (k : Key) (map : Few) → HasEachOnce es → i < length es → r ≡ get_or es i r → map ≡ take i es → k ≡ r.0 → prop_at map k ≡ None
absent_item es i r k map once lt is before label =
    ap (λ m. prop_at m k) before ∙ ap (prop_at (take i es)) label
    ∙ absent_before es i r once (slice_get-get_or es i r lt ∙ ap Some (sym is))

pub none_once : (es : Few) → es ≡ [] → HasEachOnce es
unfolding IsDistinct
none_once es is = subst HasEachOnce (sym is) tt
