-- A change of one object, and a new one, keep what holds of every store.
use Rattle.std.proofs.Common.{◌≡◌, ℕ, suc, zero, ◌<◌, Bool, true, false, List, [], ◌∷◌, ◌++◌, length, slice_get, slice_set, get_or, Option, None, Some, refl, sym, ap, subst, true≢false, ◌⊎◌, inl, inr, if◌then◌else◌}
use Rattle.std.specs.Prelude.{IfSome}
use Rattle.std.specs.List.{IsDistinct}
use Rattle.std.specs.Map.{keys_of}
use Rattle.std.specs.Option.{option_map, unwrap_or}
use Rattle.std.proofs.lemmas.Option.{slice_get_within, slice_get_read}
use Rattle.widl_store.specs.Effects.{new_object}
use Rattle.widl_store.specs.Inners.{InnerTerm, is_array, kind_of, has_shape}
use Rattle.widl_store.specs.Objects.{Obj, IsLive, same_key, length_key, length_prop}
use Rattle.widl_store.specs.Sound.{Sound, SoundAt, StartsWithLength}
use Rattle.widl_text.specs.declared.key.Key.{Key}
use Rattle.widl_value.specs.declared.object.ObjRef.{ObjRef}
use Rattle.widl_value.specs.declared.object.Shape.{Shape}

-- what stands in a list where one element was replaced is the new one, at its place, or an old one
set_cases : (objects : List Obj) (i j : ℕ) (x y : Obj) → slice_get (slice_set objects i x) j ≡ Some y → (slice_get objects j ≡ Some y) ⊎ ((j ≡ i) × (y ≡ x))
set_cases [] i j x y at = inl at
set_cases (a ∷ objects) zero zero x y at = inr (refl, sym (ap (λ o. unwrap_or o x) at))
set_cases (a ∷ objects) zero (suc j) x y at = inl at
set_cases (a ∷ objects) (suc i) zero x y at = inl at
set_cases (a ∷ objects) (suc i) (suc j) x y at = by (set_cases objects i j x y at)
  where
    by : (slice_get objects j ≡ Some y) ⊎ ((j ≡ i) × (y ≡ x)) → (slice_get objects j ≡ Some y) ⊎ ((suc j ≡ suc i) × (y ≡ x))
    by (inl old) = inl old
    by (inr new) = inr (ap suc new.0, new.1)

pub sound_set : (objects : List Obj) (i : ℕ) (o x : Obj) → Sound objects → i < length objects → o ≡ get_or objects i o → (SoundAt i o → SoundAt i x) → Sound (slice_set objects i x)
sound_set objects i o x sound small is keeps = record { each = λ j y at. by j y (set_cases objects i j x y at) }
  where
    by : (j : ℕ) (y : Obj) → (slice_get objects j ≡ Some y) ⊎ ((j ≡ i) × (y ≡ x)) → SoundAt j y
    by j y (inl old) = sound.each j y old
    by j y (inr new) = subst (λ z. SoundAt j z) (sym new.1) (subst (λ k. SoundAt k x) (sym new.0) (keeps (sound.each i o (slice_get_read objects (length objects) i o refl small is))))

push_cases : (objects : List Obj) (o : Obj) (j : ℕ) (y : Obj) → slice_get (objects ++ o ∷ []) j ≡ Some y → (slice_get objects j ≡ Some y) ⊎ ((j ≡ length objects) × (y ≡ o))
push_cases [] o zero y at = inr (refl, sym (ap (λ x. unwrap_or x o) at))
push_cases [] o (suc j) y at = absurd (let bad : None ≡ Some y = at in cc)
push_cases (a ∷ objects) o zero y at = inl at
push_cases (a ∷ objects) o (suc j) y at = by (push_cases objects o j y at)
  where
    by : (slice_get objects j ≡ Some y) ⊎ ((j ≡ length objects) × (y ≡ o)) → (slice_get objects j ≡ Some y) ⊎ ((suc j ≡ suc (length objects)) × (y ≡ o))
    by (inl old) = inl old
    by (inr new) = inr (ap suc new.0, new.1)

pub sound_push : (objects : List Obj) (o : Obj) → Sound objects → SoundAt (length objects) o → Sound (objects ++ o ∷ [])
sound_push objects o sound new = record { each = λ j y at. by j y (push_cases objects o j y at) }
  where
    by : (j : ℕ) (y : Obj) → (slice_get objects j ≡ Some y) ⊎ ((j ≡ length objects) × (y ≡ o)) → SoundAt j y
    by j y (inl old) = sound.each j y old
    by j y (inr last) = subst (λ z. SoundAt j z) (sym last.1) (subst (λ k. SoundAt k o) (sym last.0) new)

pub live_within : (objects : List Obj) (p : ObjRef) → IsLive objects p → p.id < length objects
live_within objects p live = by (slice_get objects p.id) refl live
  where
    by : (o : Option Obj) → slice_get objects p.id ≡ o → option_map (λ o. o.shape) o ≡ Some p.shape → p.id < length objects
    by None e l = absurd (let bad : None ≡ Some p.shape = l in cc)
    by (Some o) e l = slice_get_within objects p.id o e

first_sound : (b : Bool) → (b ≡ true → StartsWithLength (if b then (length_key, length_prop 0) ∷ [] else [])) × IsDistinct same_key (keys_of (if b then (length_key, length_prop 0) ∷ [] else []))
unfolding IsDistinct
first_sound true = (λ _. (refl, refl), (tt, tt))
first_sound false = (λ array. absurd (true≢false (sym array)), tt)

pub new_sound : (objects : List Obj) (proto : Option ObjRef) (shape : Shape) (inner : InnerTerm) → IfSome proto (λ p. IsLive objects p) → has_shape (kind_of inner) shape ≡ true → SoundAt (length objects) (new_object proto shape inner)
new_sound objects proto shape inner live fits = record {
  below = λ p is. live_within objects p (subst (λ o. IfSome o (λ p. IsLive objects p)) is live);
  shape = fits;
  props = record { array = (first_sound (is_array inner)).0; once = (first_sound (is_array inner)).1 };
}

pub new_store : (length : Key) → length ≡ length_key → Sound []
new_store length is = record { each = λ id o at. absurd (let bad : None ≡ Some o = at in cc) }
