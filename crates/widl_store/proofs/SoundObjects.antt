-- A change of properties or of the inner part keeps an array's length first and each key once.
use Rattle.std.proofs.Common.{◌≡◌, ℕ, ◌+◌, Bool, true, false, List, [], ◌∷◌, ◌++◌, Option, None, Some, refl, sym, ap, subst, ◌∙◌, true≢false, map, if◌then◌else◌}
use Rattle.std.specs.Prelude.{is_some, not}
use Rattle.std.specs.List.{IsDistinct, AllByRecursion}
use Rattle.std.specs.Map.{lookup, keys_of}
use Rattle.widl_text.specs.declared.key.Key.{Key}
use Rattle.widl_text.specs.Index.{index_of}
use Rattle.widl_store.specs.declared.property.Prop.{Prop}
use Rattle.widl_store.specs.Inners.{InnerTerm, is_array, is_array_kind, kind_of, has_shape}
use Rattle.widl_store.specs.Objects.{Obj, same_key, prop_at, replaced, with_prop, without_prop, length_key, length_prop}
use Rattle.widl_store.specs.Effects.{with_props, with_part, placed, raised, raised_from, is_above, is_fixed_in}
use Rattle.widl_store.specs.Sound.{StartsWithLength, SoundProps, SoundAt}
use Rattle.widl_store.proofs.KeyEquality.{same_key_equiv}

-- 1. each key once
keys_replaced : (key : Key) (prop : Prop) (props : List (Key × Prop)) → keys_of (map (replaced key prop) props) ≡ keys_of props
keys_replaced key prop [] = refl
keys_replaced key prop (e ∷ es) = go (same_key key e.0) (keys_replaced key prop es)
  where
    go : (b : Bool) → keys_of (map (replaced key prop) es) ≡ keys_of es → keys_of ((if b then (e.0, prop) else e) ∷ map (replaced key prop) es) ≡ e.0 ∷ keys_of es
    go true rest = ap (λ ks. e.0 ∷ ks) rest
    go false rest = ap (λ ks. e.0 ∷ ks) rest

all_lacking : (key : Key) (props : List (Key × Prop)) (k : Key) → AllByRecursion (λ y. same_key k y ≡ false) (keys_of props) → same_key k key ≡ false → (prop : Prop) → AllByRecursion (λ y. same_key k y ≡ false) (keys_of (props ++ (key, prop) ∷ []))
all_lacking key [] k h other prop = (other, tt)
all_lacking key (e ∷ es) k h other prop = (h.0, all_lacking key es k h.1 other prop)

distinct_last : (key : Key) (prop : Prop) (props : List (Key × Prop)) → IsDistinct same_key (keys_of props) → prop_at props key ≡ None → IsDistinct same_key (keys_of (props ++ (key, prop) ∷ []))
unfolding IsDistinct
distinct_last key prop [] d none = (tt, tt)
distinct_last key prop (e ∷ es) d none = go (same_key key e.0) refl (distinct_last key prop es d.1)
  where
    go : (b : Bool) → same_key key e.0 ≡ b → (prop_at es key ≡ None → IsDistinct same_key (keys_of (es ++ (key, prop) ∷ []))) → IsDistinct same_key (keys_of ((e ∷ es) ++ (key, prop) ∷ []))
    go true t rest = absurd (let bad : Some e.1 ≡ None = ap (λ b. if b then Some e.1 else lookup (same_key key) es) (sym t) ∙ none in cc)
    go false t rest = (
      all_lacking key es e.0 d.0 (same_key_equiv.symm e.0 key ∙ t) prop,
      rest (ap (λ b. if b then Some e.1 else lookup (same_key key) es) (sym t) ∙ none),
    )

pub with_once : (key : Key) (prop : Prop) (props : List (Key × Prop)) → IsDistinct same_key (keys_of props) → IsDistinct same_key (keys_of (with_prop props key prop))
with_once key prop props d = go (prop_at props key) refl
  where
    go : (o : Option Prop) → prop_at props key ≡ o → IsDistinct same_key (keys_of (with_prop props key prop))
    go None none = subst (λ o. IsDistinct same_key (keys_of (if is_some o then map (replaced key prop) props else props ++ (key, prop) ∷ []))) (sym none) (distinct_last key prop props d none)
    go (Some held) has = subst (λ o. IsDistinct same_key (keys_of (if is_some o then map (replaced key prop) props else props ++ (key, prop) ∷ []))) (sym has) (subst (IsDistinct same_key) (sym (keys_replaced key prop props)) d)

all_kept_in : (k key : Key) (props : List (Key × Prop)) → AllByRecursion (λ y. same_key k y ≡ false) (keys_of props) → AllByRecursion (λ y. same_key k y ≡ false) (keys_of (without_prop props key))
all_kept_in k key [] h = tt
all_kept_in k key (e ∷ es) h = go (not (same_key key e.0)) (all_kept_in k key es h.1)
  where
    go : (b : Bool) → AllByRecursion (λ y. same_key k y ≡ false) (keys_of (without_prop es key)) → AllByRecursion (λ y. same_key k y ≡ false) (keys_of (if b then e ∷ without_prop es key else without_prop es key))
    go true rest = (h.0, rest)
    go false rest = rest

pub without_once : (key : Key) (props : List (Key × Prop)) → IsDistinct same_key (keys_of props) → IsDistinct same_key (keys_of (without_prop props key))
unfolding IsDistinct
without_once key [] d = tt
without_once key (e ∷ es) d = go (not (same_key key e.0)) (without_once key es d.1)
  where
    go : (b : Bool) → IsDistinct same_key (keys_of (without_prop es key)) → IsDistinct same_key (keys_of (if b then e ∷ without_prop es key else without_prop es key))
    go true rest = (all_kept_in e.0 key es d.0, rest)
    go false rest = rest

-- 2. the length first
replaced_starts : (key : Key) (prop : Prop) (props : List (Key × Prop)) → (same_key key length_key ≡ false) → StartsWithLength props → StartsWithLength (map (replaced key prop) props)
replaced_starts key prop [] other s = s
replaced_starts key prop (e ∷ es) other s = go (same_key key e.0) refl
  where
    go : (b : Bool) → same_key key e.0 ≡ b → StartsWithLength ((if b then (e.0, prop) else e) ∷ map (replaced key prop) es)
    go true t = absurd (true≢false (sym t ∙ ap (same_key key) s.0 ∙ other))
    go false t = s

pub with_starts : (key : Key) (prop : Prop) (props : List (Key × Prop)) → same_key key length_key ≡ false → StartsWithLength props → StartsWithLength (with_prop props key prop)
with_starts key prop [] other s = absurd s
with_starts key prop (e ∷ es) other s = go (is_some (prop_at (e ∷ es) key))
  where
    go : (b : Bool) → StartsWithLength (if b then map (replaced key prop) (e ∷ es) else (e ∷ es) ++ (key, prop) ∷ [])
    go true = replaced_starts key prop (e ∷ es) other s
    go false = s

length_starts : (n : ℕ) (props : List (Key × Prop)) → StartsWithLength props → StartsWithLength (with_prop props length_key (length_prop n))
length_starts n [] s = absurd s
length_starts n (e ∷ es) s = go (is_some (prop_at (e ∷ es) length_key))
  where
    here : (b : Bool) → StartsWithLength ((if b then (e.0, length_prop n) else e) ∷ map (replaced length_key (length_prop n)) es)
    here true = (s.0, refl)
    here false = s

    go : (b : Bool) → StartsWithLength (if b then map (replaced length_key (length_prop n)) (e ∷ es) else (e ∷ es) ++ (length_key, length_prop n) ∷ [])
    go true = here (same_key length_key e.0)
    go false = s

raised_both : (index : Option ℕ) (props : List (Key × Prop)) → StartsWithLength props × IsDistinct same_key (keys_of props) → StartsWithLength (raised index props) × IsDistinct same_key (keys_of (raised index props))
raised_both None props h = h
raised_both (Some n) props h = from (prop_at props length_key)
  where
    by : (length : Prop) (b : Bool) → StartsWithLength (if b then props else with_prop props length_key (length_prop (n + 1))) × IsDistinct same_key (keys_of (if b then props else with_prop props length_key (length_prop (n + 1))))
    by length true = h
    by length false = (length_starts (n + 1) props h.0, with_once length_key (length_prop (n + 1)) props h.1)

    from : (o : Option Prop) → StartsWithLength (raised_from props n o) × IsDistinct same_key (keys_of (raised_from props n o))
    from None = h
    from (Some length) = by length (is_above length n)

not_length : (o : Obj) (key : Key) → is_fixed_in o key ≡ false → is_array o.inner ≡ true → same_key key length_key ≡ false
not_length o key free array = sym (ap (λ b. if b then same_key key length_key else false) array) ∙ free

pub placed_sound : (o : Obj) (key : Key) (prop : Prop) → is_fixed_in o key ≡ false → SoundProps o → SoundProps (with_props o (placed o key prop))
placed_sound o key prop free sound = go (is_array o.inner) refl
  where
    once : IsDistinct same_key (keys_of (with_prop o.props key prop))
    once = with_once key prop o.props sound.once

    go : (b : Bool) → is_array o.inner ≡ b → SoundProps (with_props o (placed o key prop))
    go true array =
        let both = raised_both (index_of key) (with_prop o.props key prop) (with_starts key prop o.props (not_length o key free array) (sound.array array), once) in
        record {
          array = λ _. subst (λ b. StartsWithLength (if b then raised (index_of key) (with_prop o.props key prop) else with_prop o.props key prop)) (sym array) both.0;
          once = subst (λ b. IsDistinct same_key (keys_of (if b then raised (index_of key) (with_prop o.props key prop) else with_prop o.props key prop))) (sym array) both.1;
        }
    go false other = record {
      array = λ array. absurd (true≢false (sym array ∙ other));
      once = subst (λ b. IsDistinct same_key (keys_of (if b then raised (index_of key) (with_prop o.props key prop) else with_prop o.props key prop))) (sym other) once;
    }

without_starts : (key : Key) (props : List (Key × Prop)) → same_key key length_key ≡ false → StartsWithLength props → StartsWithLength (without_prop props key)
without_starts key [] other s = s
without_starts key (e ∷ es) other s = subst (λ b. StartsWithLength (if b then e ∷ without_prop es key else without_prop es key)) (sym (ap not (ap (same_key key) s.0 ∙ other))) s

pub removed_sound : (o : Obj) (key : Key) → is_fixed_in o key ≡ false → SoundProps o → SoundProps (with_props o (without_prop o.props key))
removed_sound o key free sound = record {
  array = λ array. without_starts key o.props (not_length o key free array) (sound.array array);
  once = without_once key o.props sound.once;
}

pub inner_sound : (o : Obj) (inner : InnerTerm) → kind_of o.inner ≡ kind_of inner → SoundProps o → SoundProps (with_part o inner)
inner_sound o inner same sound = record { array = λ array. sound.array (ap is_array_kind same ∙ array); once = sound.once }

-- 3. the object of a number
pub placed_at : (id : ℕ) (o : Obj) (key : Key) (prop : Prop) → is_fixed_in o key ≡ false → SoundAt id o → SoundAt id (with_props o (placed o key prop))
placed_at id o key prop free sound = record { below = sound.below; shape = sound.shape; props = placed_sound o key prop free sound.props }

pub removed_at : (id : ℕ) (o : Obj) (key : Key) → is_fixed_in o key ≡ false → SoundAt id o → SoundAt id (with_props o (without_prop o.props key))
removed_at id o key free sound = record { below = sound.below; shape = sound.shape; props = removed_sound o key free sound.props }

pub inner_at : (id : ℕ) (o : Obj) (inner : InnerTerm) → kind_of o.inner ≡ kind_of inner → SoundAt id o → SoundAt id (with_part o inner)
inner_at id o inner same sound = record {
  below = sound.below;
  shape = ap (λ kind. has_shape kind o.shape) (sym same) ∙ sound.shape;
  props = inner_sound o inner same sound.props;
}
