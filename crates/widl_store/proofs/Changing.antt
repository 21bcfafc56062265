-- What each call does to the entries in order.
use Rattle.std.proofs.Common.{◌≡◌, ℕ, zero, suc, ◌<◌, Bool, true, false, if◌then◌else◌, Option, Some, None, List, [], ◌∷◌, ◌++◌, length, get_or, refl, sym, ◌∙◌, ap, subst, inl, inr, arith, map, cond}
use Rattle.std.specs.Prelude.{Contains, not, IfSome}
use Rattle.std.specs.Map.{lookup, keys_of, set_value}
use Rattle.std.specs.List.{AllByRecursion}
use Rattle.indexmap.specs.IndexMap.{insert_entry}
use Rattle.std.specs.List.{IsDistinct, swap_remove, slice_get, position}
use Rattle.std.proofs.lemmas.List.Quantifiers.{position-Some}
use Rattle.std.proofs.lemmas.List.Elements.{Contains-push_cases}
use Rattle.std.proofs.lemmas.Map.Entries.{length-keys_of}
use Rattle.std.proofs.lemmas.Option.{slice_get-get_or}
use Rattle.std.specs.Option.{option_map}
use Rattle.widl_text.specs.declared.key.Key.{Key}
use Rattle.widl_store.specs.declared.property.Prop.{Prop}
use Rattle.widl_store.specs.Created.{Created}
use Rattle.widl_store.specs.Leaving.{Leaves}
use Rattle.widl_store.specs.Objects.{same_key, replaced, without_prop}
use Rattle.widl_store.specs.Order.{Entry, gathered, shown, in_order, changed, Numbered}
use Rattle.widl_store.proofs.KeyEquality.{key_true}
use Rattle.widl_text.specs.declared.key.Key.TheVariants.{Sym}
use Rattle.widl_store.specs.declared.property.Prop.TheVariants.{Accessor}
use Rattle.widl_store.specs.Objects.{all_flags}
use Rattle.widl_store.proofs.Creation.{AllBelow, EachOnce, in_cons, in_head, in_tail, nobody, new_last, map_append, changed_in_place, once_left, left_in_order}
use Rattle.widl_store.proofs.KeyFinds.{found_in_order, keys_once, removed_leaves, filter_shown}

abbrev pub nothing : Entry
nothing = (Sym 0, record { number = 0; prop = Accessor None None all_flags })

-- deletion, in order
pub deleted_in_order : (key : Key) (n : ℕ) (es fs : List Entry) → Leaves (λ e. not (same_key key e.0)) es fs → EachOnce es → in_order n fs ≡ without_prop (in_order n es) key
deleted_in_order key n es fs l once = ap (map shown) (left_in_order (λ e. not (same_key key e.0)) es fs l once n) ∙ filter_shown key (gathered n es)

pub below_left : (p : Entry → Bool) (n : ℕ) (es fs : List Entry) → Leaves p es fs → AllBelow n es → AllBelow n fs
below_left p n es fs l below = λ e h. below e (l.sub e h)

-- a new property, in order
pub created_in_order : (key : Key) (prop : Prop) (n : ℕ) (es : List Entry) → AllBelow n es → in_order (suc n) (es ++ (key, record { number = n; prop = prop }) ∷ []) ≡ in_order n es ++ (key, prop) ∷ []
created_in_order key prop n es below =
    ap (map shown) (new_last n es (key, record { number = n; prop = prop }) below refl)
    ∙ map_append shown (gathered n es) ((key, record { number = n; prop = prop }) ∷ [])

-- a held property, in order
pub changed_number : (key : Key) (prop : Prop) (e : Entry) → (changed key prop e).1.number ≡ e.1.number
changed_number key prop e = go (same_key key e.0)
  where
    go : (b : Bool) → (if b then (e.0, record { number = e.1.number; prop = prop }) else e).1.number ≡ e.1.number
    go true = refl
    go false = refl

pub changed_shown : (key : Key) (prop : Prop) (es : List Entry) → map shown (map (changed key prop) es) ≡ map (replaced key prop) (map shown es)
changed_shown key prop [] = refl
changed_shown key prop (e ∷ es) = go (same_key key e.0) (changed_shown key prop es)
  where
    go : (b : Bool) → map shown (map (changed key prop) es) ≡ map (replaced key prop) (map shown es) → shown (if b then (e.0, record { number = e.1.number; prop = prop }) else e) ∷ map shown (map (changed key prop) es) ≡ (if b then (e.0, prop) else shown e) ∷ map (replaced key prop) (map shown es)
    go true rest = ap (λ r. (e.0, prop) ∷ r) rest
    go false rest = ap (λ r. shown e ∷ r) rest

pub replaced_in_order : (key : Key) (prop : Prop) (n : ℕ) (es : List Entry) → in_order n (map (changed key prop) es) ≡ map (replaced key prop) (in_order n es)
replaced_in_order key prop n es =
    ap (map shown) (changed_in_place (changed key prop) (changed_number key prop) n es) ∙ changed_shown key prop (gathered n es)

-- what is inserted at a held key changes that entry alone
pub unchanged : (key : Key) (prop : Prop) (es : List Entry) → lookup (same_key key) es ≡ None → map (changed key prop) es ≡ es
unchanged key prop [] e = refl
unchanged key prop (x ∷ es) e = go (same_key key x.0) refl (unchanged key prop es)
  where
    go : (b : Bool) → same_key key x.0 ≡ b → (lookup (same_key key) es ≡ None → map (changed key prop) es ≡ es) → map (changed key prop) (x ∷ es) ≡ x ∷ es
    go true t rest = absurd (let bad : Some x.1 ≡ None = ap (λ b. if b then Some x.1 else lookup (same_key key) es) (sym t) ∙ e in cc)
    go false t rest = ap (λ b. (if b then (x.0, record { number = x.1.number; prop = prop }) else x) ∷ map (changed key prop) es) t ∙ ap (λ r. x ∷ r) (rest (ap (λ b. if b then Some x.1 else lookup (same_key key) es) (sym t) ∙ e))

pub none_passes : (key : Key) (es : List Entry) → AllByRecursion (λ y. same_key key y ≡ false) (keys_of es) → lookup (same_key key) es ≡ None
none_passes key [] h = refl
none_passes key (e ∷ es) h = ap (λ b. if b then Some e.1 else lookup (same_key key) es) h.0 ∙ none_passes key es h.1

pub distinct_head : (x : Entry) (es : List Entry) → IsDistinct same_key (keys_of (x ∷ es)) → lookup (same_key x.0) es ≡ None
unfolding IsDistinct
distinct_head x es d = none_passes x.0 es d.0

pub distinct_tail : (x : Entry) (es : List Entry) → IsDistinct same_key (keys_of (x ∷ es)) → IsDistinct same_key (keys_of es)
unfolding IsDistinct
distinct_tail x es d = d.1

pub written_changes : (key : Key) (prop : Prop) (es : List Entry) (h : Created) → IsDistinct same_key (keys_of es) → lookup (same_key key) es ≡ Some h → set_value (same_key key) es (record { number = h.number; prop = prop }) ≡ map (changed key prop) es
written_changes key prop [] h d e = absurd (let bad : None ≡ Some h = e in cc)
written_changes key prop (x ∷ es) h d e = go (same_key key x.0) refl (written_changes key prop es h (distinct_tail x es d))
  where
    go : (b : Bool) → same_key key x.0 ≡ b → (lookup (same_key key) es ≡ Some h → set_value (same_key key) es (record { number = h.number; prop = prop }) ≡ map (changed key prop) es) → set_value (same_key key) (x ∷ es) (record { number = h.number; prop = prop }) ≡ map (changed key prop) (x ∷ es)
    go true t rest =
        let held : x.1 ≡ h = let f : Some x.1 ≡ Some h = ap (λ b. if b then Some x.1 else lookup (same_key key) es) (sym t) ∙ e in cc in
        let others : map (changed key prop) es ≡ es = unchanged key prop es (ap (λ k. lookup (same_key k) es) (key_true key x.0 t) ∙ distinct_head x es d) in
        ap (λ b. cond b ((x.0, record { number = h.number; prop = prop }) ∷ es) (x ∷ set_value (same_key key) es (record { number = h.number; prop = prop }))) t
        ∙ ap (λ n. (x.0, record { number = n; prop = prop }) ∷ es) (ap (λ y. y.number) (sym held))
        ∙ ap (λ r. (x.0, record { number = x.1.number; prop = prop }) ∷ r) (sym others)
        ∙ ap (λ b. (if b then (x.0, record { number = x.1.number; prop = prop }) else x) ∷ map (changed key prop) es) (sym t)
    go false t rest =
        ap (λ b. cond b ((x.0, record { number = h.number; prop = prop }) ∷ es) (x ∷ set_value (same_key key) es (record { number = h.number; prop = prop }))) t
        ∙ ap (λ r. x ∷ r) (rest (ap (λ b. if b then Some x.1 else lookup (same_key key) es) (sym t) ∙ e))
        ∙ ap (λ b. (if b then (x.0, record { number = x.1.number; prop = prop }) else x) ∷ map (changed key prop) es) (sym t)

-- what holds of entries after each call
pub record IsKept (n : ℕ) (es : List Entry) : Type 0 where
  pub below : AllBelow n es
  pub once : EachOnce es

pub changed_in : (key : Key) (prop : Prop) (es : List Entry) (e : Entry) → Contains (map (changed key prop) es) e → (f : Entry) × Contains es f × (e ≡ changed key prop f)
changed_in key prop [] e h = absurd (nobody e h)
changed_in key prop (x ∷ es) e h = elim (in_cons (changed key prop x) e (map (changed key prop) es) h) [
  | inl same ↦ (x, in_head x es, sym same)
  | inr rest ↦ let r = changed_in key prop es e rest in (r.0, in_tail x r.0 es r.1, r.2)
]

pub changed_kept : (key : Key) (prop : Prop) (n : ℕ) (es : List Entry) → IsKept n es → IsKept n (map (changed key prop) es)
changed_kept key prop n es k = record {
  below = λ e h. let r = changed_in key prop es e h in let same : e.1.number ≡ r.0.1.number = ap (λ y. y.1.number) r.2 ∙ changed_number key prop r.0 in omega (arith, k.below r.0 r.1, same);
  once = λ a b h i e.
      let r = changed_in key prop es a h in
      let s = changed_in key prop es b i in
      let same : r.0 ≡ s.0 = k.once r.0 s.0 r.1 s.1 (sym (ap (λ y. y.1.number) r.2 ∙ changed_number key prop r.0) ∙ e ∙ ap (λ y. y.1.number) s.2 ∙ changed_number key prop s.0) in
      r.2 ∙ ap (changed key prop) same ∙ sym s.2;
}

pub created_kept : (key : Key) (prop : Prop) (n : ℕ) (es : List Entry) → IsKept n es → IsKept (suc n) (es ++ (key, record { number = n; prop = prop }) ∷ [])
created_kept key prop n es k = record {
  below = λ e h. elim (Contains-push_cases es (key, record { number = n; prop = prop }) e h) [
    | inl old ↦ omega (arith, k.below e old)
    | inr new ↦ let same : n ≡ e.1.number = ap (λ y. y.1.number) new in omega arith
  ];
  once = λ a b h i e. elim (Contains-push_cases es (key, record { number = n; prop = prop }) a h) [
    | inl old ↦ elim (Contains-push_cases es (key, record { number = n; prop = prop }) b i) [
      | inl other ↦ k.once a b old other e
      | inr new ↦ absurd (let same : n ≡ b.1.number = ap (λ y. y.1.number) new in omega (arith, k.below a old))
    ]
    | inr first ↦ elim (Contains-push_cases es (key, record { number = n; prop = prop }) b i) [
      | inl other ↦ absurd (let same : n ≡ a.1.number = ap (λ y. y.1.number) first in omega (arith, k.below b other))
      | inr new ↦ sym first ∙ new
    ]
  ];
}

pub left_kept : (p : Entry → Bool) (n : ℕ) (es fs : List Entry) → Leaves p es fs → IsKept n es → IsKept n fs
left_kept p n es fs l k = record { below = below_left p n es fs l k.below; once = once_left p es fs l k.once }

-- what a removal by index tells
pub key_at : (es : List Entry) (i : ℕ) (d : Key) (x : Entry) → slice_get es i ≡ Some x → get_or (keys_of es) i d ≡ x.0
key_at [] i d x e = absurd (let bad : None ≡ Some x = e in cc)
key_at (y ∷ es) zero d x e = let same : y ≡ x = let f : Some y ≡ Some x = e in cc in ap (λ z. z.0) same
key_at (y ∷ es) (suc i) d x e = key_at es i d x e

pub removed : (key : Key) (i : ℕ) (es fs : List Entry) (r : Option Entry) → position (same_key key) (keys_of es) ≡ Some i → r ≡ slice_get es i → IfSome r (λ x. fs ≡ swap_remove es i x) → IfSome r (λ x. lookup (same_key x.0) fs ≡ None) → Leaves (λ e. not (same_key key e.0)) es fs
removed key i es fs None at_i is moved gone =
    let p = position-Some (same_key key) (keys_of es) i nothing.0 at_i in
    let lt : i < length es = subst (λ n. i < n) (length-keys_of es) p.0 in
    let there : slice_get es i ≡ Some (get_or es i nothing) = slice_get-get_or es i nothing lt in
    absurd (let bad : None ≡ Some (get_or es i nothing) = is ∙ there in cc)
removed key i es fs (Some x) at_i is moved gone =
    let p = position-Some (same_key key) (keys_of es) i nothing.0 at_i in
    let here : same_key key x.0 ≡ true = ap (same_key key) (sym (key_at es i nothing.0 x (sym is))) ∙ p.1 in
    removed_leaves key i x es fs here (sym is) moved (ap (λ k. lookup (same_key k) fs) (key_true key x.0 here) ∙ gone)

pub all_kept : (n : ℕ) (es : List Entry) → AllBelow n es → EachOnce es → IsKept n es
all_kept n es below once = record { below = below; once = once }

pub new_entry : (key : Key) (held : Created) (es : List Entry) → lookup (same_key key) es ≡ None → insert_entry same_key es key held ≡ es ++ (key, held) ∷ []
new_entry key held [] e = refl
new_entry key held (x ∷ es) e = go (same_key key x.0) refl (new_entry key held es)
  where
    go : (b : Bool) → same_key key x.0 ≡ b → (lookup (same_key key) es ≡ None → insert_entry same_key es key held ≡ es ++ (key, held) ∷ []) → insert_entry same_key (x ∷ es) key held ≡ (x ∷ es) ++ (key, held) ∷ []
    go true t rest = absurd (let bad : Some x.1 ≡ None = ap (λ b. if b then Some x.1 else lookup (same_key key) es) (sym t) ∙ e in cc)
    go false t rest = ap (λ b. if b then (x.0, held) ∷ es else x ∷ insert_entry same_key es key held) t ∙ ap (λ r. x ∷ r) (rest (ap (λ b. if b then Some x.1 else lookup (same_key key) es) (sym t) ∙ e))

-- an entry that is inserted at a key without property
pub absent_entry : (key : Key) (n : ℕ) (es : List Entry) → Numbered n es → lookup (same_key key) (in_order n es) ≡ None → lookup (same_key key) es ≡ None
absent_entry key n es numbered none = go (lookup (same_key key) es) refl
  where
    go : (o : Option Created) → lookup (same_key key) es ≡ o → o ≡ None
    go None e = refl
    go (Some h) e = absurd (let bad : None ≡ Some h.prop = sym none ∙ found_in_order key n es numbered.below numbered.once (keys_once es numbered.keys) ∙ ap (option_map (λ h. h.prop)) e in cc)

pub created_numbered : (key : Key) (prop : Prop) (n next : ℕ) (es fs : List Entry) → Numbered n es → lookup (same_key key) (in_order n es) ≡ None → next ≡ suc n → fs ≡ insert_entry same_key es key (record { number = n; prop = prop }) → IsDistinct same_key (keys_of fs) → Numbered next fs
created_numbered key prop n next es fs numbered none e is distinct =
    let k : IsKept (suc n) (es ++ (key, record { number = n; prop = prop }) ∷ []) = created_kept key prop n es (all_kept n es numbered.below numbered.once) in
    let kept : IsKept next fs = subst (λ m. IsKept m fs) (sym e) (subst (IsKept (suc n)) (sym (is ∙ new_entry key (record { number = n; prop = prop }) es (absent_entry key n es numbered none))) k) in
    record { below = kept.below; once = kept.once; keys = distinct }

pub created_shown : (key : Key) (prop : Prop) (n next : ℕ) (es fs : List Entry) → Numbered n es → lookup (same_key key) (in_order n es) ≡ None → next ≡ suc n → fs ≡ insert_entry same_key es key (record { number = n; prop = prop }) → in_order next fs ≡ in_order n es ++ (key, prop) ∷ []
created_shown key prop n next es fs numbered none e is =
    ap (λ m. in_order m fs) e
    ∙ ap (in_order (suc n)) (is ∙ new_entry key (record { number = n; prop = prop }) es (absent_entry key n es numbered none))
    ∙ created_in_order key prop n es numbered.below
