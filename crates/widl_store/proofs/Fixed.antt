-- The length of an array can't be deleted.
use Rattle.std.proofs.Common.{◌≡◌, ℕ, Bool, true, false, List, [], ◌∷◌, Option, None, Some, refl, sym, ap, ◌∙◌, true≢false, if◌then◌else◌}
use Rattle.std.specs.Prelude.{slice_get, Ok, Err}
use Rattle.std.specs.Option.{option_and_then, option_map_or}
use Rattle.widl_store.specs.declared.property.Prop.{Prop}
use Rattle.widl_store.specs.Effects.{is_fixed, is_fixed_in, delete_of}
use Rattle.widl_store.specs.Inners.{is_array}
use Rattle.widl_store.specs.Objects.{Obj, same_key, prop_at, own_at, length_key, length_flags}
use Rattle.widl_store.specs.Sound.{Sound, SoundProps, StartsWithLength}
use Rattle.widl_store.proofs.KeyEquality.{key_true, key_same}
use Rattle.widl_text.specs.declared.key.Key.{Key}

held_length : (props : List (Key × Prop)) (key : Key) → same_key key length_key ≡ true → StartsWithLength props → delete_of (prop_at props key) ≡ Err (record { 0 = length_flags })
held_length [] key is s = absurd s
held_length (e ∷ es) key is s =
    ap (λ b. delete_of (if b then Some e.1 else prop_at es key)) (key_same key e.0 (key_true key length_key is ∙ sym s.0))
    ∙ ap (λ f. if f.configurable then Ok tt else Err (record { 0 = f })) s.1

pub fixed_delete : (objects : List Obj) (id : ℕ) (key : Key) → Sound objects → is_fixed objects id key ≡ true → delete_of (own_at objects id key) ≡ Err (record { 0 = length_flags })
unfolding is_fixed
fixed_delete objects id key sound fixed = by (slice_get objects id) refl
  where
    of : (o : Obj) → SoundProps o → (b : Bool) → is_array o.inner ≡ b → (if b then same_key key length_key else false) ≡ true → delete_of (prop_at o.props key) ≡ Err (record { 0 = length_flags })
    of o s true array f = held_length o.props key f (s.array array)
    of o s false array f = absurd (true≢false (sym f))

    by : (o : Option Obj) → slice_get objects id ≡ o → delete_of (option_and_then (λ o. prop_at o.props key) o) ≡ Err (record { 0 = length_flags })
    by None e = absurd (true≢false (sym fixed ∙ ap (λ o. option_map_or (λ o. is_fixed_in o key) o false) e))
    by (Some o) e = of o (sound.each id o e).props (is_array o.inner) refl (sym (ap (λ o. option_map_or (λ o. is_fixed_in o key) o false) e) ∙ fixed)
