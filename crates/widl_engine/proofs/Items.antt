-- For proofs alone. The items of a new array and the properties of a new object, defined one after another.
use Rattle.std.proofs.Common.{◌≡◌, ℕ, zero, suc, ◌+◌, ◌<◌, List, [], ◌∷◌, Option, Some, None, length, drop, sym, ap, ◌∙◌, refl, slice_get, slice_set, decimal}
use Rattle.std.specs.Option.{option_map, option_map_or}
use Rattle.widl_text.specs.declared.key.Key.{Key}
use Rattle.widl_text.specs.declared.key.Key.TheVariants.{Name}
use Rattle.widl_value.specs.declared.object.ObjRef.{ObjRef}
use Rattle.widl_value.specs.declared.value.Value.{Value}
use Rattle.widl_store.specs.declared.property.Prop.{Prop}
use Rattle.widl_store.specs.declared.property.Prop.TheVariants.{Plain}
use Rattle.widl_store.specs.Effects.{with_props, placed, defined}
use Rattle.widl_store.specs.Objects.{Obj, StoreState, with_objects, IsLive, all_flags}
use Rattle.widl_runs.specs.Actions.{data_properties, item_properties, with_properties}
use Rattle.widl_engine.proofs.TakenBack.{rest_of_taken}

same_shape : (objects : List Obj) (id k : ℕ) (o x : Obj) → slice_get objects id ≡ Some o → x.shape ≡ o.shape → option_map (λ (q : Obj). q.shape) (slice_get (slice_set objects id x) k) ≡ option_map (λ (q : Obj). q.shape) (slice_get objects k)
same_shape [] id k o x at same = refl
same_shape (y ∷ ys) zero zero o x at same = ap Some same ∙ ap (option_map (λ (q : Obj). q.shape)) (sym at)
same_shape (y ∷ ys) zero (suc k) o x at same = refl
same_shape (y ∷ ys) (suc id) zero o x at same = refl
same_shape (y ∷ ys) (suc id) (suc k) o x at same = same_shape ys id k o x at same

live_changed : (objects : List Obj) (id : ℕ) (f : Obj → List (Key × Prop)) (r : ObjRef) (g : Option Obj) → slice_get objects id ≡ g → IsLive objects r → option_map (λ (q : Obj). q.shape) (slice_get (option_map_or (λ o. slice_set objects id (with_props o (f o))) g objects) r.id) ≡ Some r.shape
live_changed objects id f r None at live = live
live_changed objects id f r (Some o) at live = same_shape objects id r.id o (with_props o (f o)) at refl ∙ live

pub live_defined : (objects now : List Obj) (id : ℕ) (key : Key) (prop : Prop) (r : ObjRef) → now ≡ defined objects id key prop → IsLive objects r → IsLive now r
live_defined objects now id key prop r is live = ap (λ (l : List Obj). option_map (λ (q : Obj). q.shape) (slice_get l r.id)) is ∙ live_changed objects id (λ o. placed o key prop) r (slice_get objects id) refl live

pub next_item : (t u : StoreState) (id k : ℕ) (items more : List Value) (key : Key) (v new : Value) → k < length items → slice_get items k ≡ Some v → more ≡ slice_set items k new → key ≡ Name (decimal k) → u ≡ with_objects t (defined t.objects id key (Plain v all_flags)) → with_objects u (with_properties u.objects id (item_properties (k + 1) (drop (k + 1) more))) ≡ with_objects t (with_properties t.objects id (item_properties k (drop k items)))
next_item t u id k items more key v new within at put is_key is =
    ap (λ (z : StoreState). with_objects z (with_properties z.objects id (item_properties (k + 1) (drop (k + 1) more)))) is
    ∙ ap (λ (q : Key). with_objects t (with_properties (defined t.objects id q (Plain v all_flags)) id (item_properties (k + 1) (drop (k + 1) more)))) is_key
    ∙ ap (λ (vs : List Value). with_objects t (with_properties t.objects id (item_properties k vs))) (sym (rest_of_taken items more k v new within at put))

pub next_entry : (t u : StoreState) (id k : ℕ) (entries more : List (Key × Value)) (entry new : Key × Value) → k < length entries → slice_get entries k ≡ Some entry → more ≡ slice_set entries k new → u ≡ with_objects t (defined t.objects id entry.0 (Plain entry.1 all_flags)) → with_objects u (with_properties u.objects id (data_properties (drop (k + 1) more))) ≡ with_objects t (with_properties t.objects id (data_properties (drop k entries)))
next_entry t u id k entries more entry new within at put is =
    ap (λ (z : StoreState). with_objects z (with_properties z.objects id (data_properties (drop (k + 1) more)))) is
    ∙ ap (λ (es : List (Key × Value)). with_objects t (with_properties t.objects id (data_properties es))) (sym (rest_of_taken entries more k entry new within at put))
