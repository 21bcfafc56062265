-- A live reference stays live, and what stands for a definition stays of its kind.
use Rattle.std.proofs.Common.{◌≡◌, ℕ, zero, suc, ◌<◌, List, [], ◌∷◌, ◌++◌, length, get_or, Option, None, Some, refl, sym, ap, ◌∙◌, slice_get, slice_set}
use Rattle.std.specs.Option.{option_map, option_map_or}
use Rattle.std.proofs.lemmas.Option.{slice_get_read}
use Rattle.widl_store.specs.declared.homes.Homes.{Homes}
use Rattle.widl_store.specs.declared.property.Prop.{Prop}
use Rattle.widl_store.specs.Effects.{changed, with_props, with_part, with_inner}
use Rattle.widl_store.specs.Inners.{InnerTerm, InnerKind, kind_of}
use Rattle.widl_store.specs.Objects.{Obj, IsLive}
use Rattle.widl_store.specs.Sound.{IsLiveAs, KeepsKind, SoundHomes}
use Rattle.widl_text.specs.declared.key.Key.{Key}
use Rattle.widl_value.specs.declared.object.ObjRef.{ObjRef}
use Rattle.widl_value.specs.declared.object.Shape.{Shape}

-- 1. A change of an object that leaves something of it, and a new object
left_set : {A : Type 0} (seen : Obj → A) (objects : List Obj) (i j : ℕ) (o x : Obj) → slice_get objects i ≡ Some o → seen x ≡ seen o → option_map seen (slice_get (slice_set objects i x) j) ≡ option_map seen (slice_get objects j)
left_set seen [] i j o x at same = refl
left_set seen (a ∷ objects) zero zero o x at same = ap Some (same ∙ ap seen (sym (let e : a ≡ o = let f : Some a ≡ Some o = at in cc in e)))
left_set seen (a ∷ objects) zero (suc j) o x at same = refl
left_set seen (a ∷ objects) (suc i) zero o x at same = refl
left_set seen (a ∷ objects) (suc i) (suc j) o x at same = left_set seen objects i j o x at same

left_changed : {A : Type 0} (seen : Obj → A) (objects : List Obj) (i j : ℕ) (f : Obj → Obj) → ((o : Obj) → seen (f o) ≡ seen o) → option_map seen (slice_get (option_map_or (λ o. slice_set objects i (f o)) (slice_get objects i) objects) j) ≡ option_map seen (slice_get objects j)
left_changed {A} seen objects i j f same = go (slice_get objects i) refl
  where
    go : (o : Option Obj) → slice_get objects i ≡ o → option_map seen (slice_get (option_map_or (λ o. slice_set objects i (f o)) o objects) j) ≡ option_map seen (slice_get objects j)
    go None at = refl
    go (Some o) at = left_set seen objects i j o (f o) at (same o)

left_more : {A : Type 0} (seen : Obj → A) (objects : List Obj) (o : Obj) (i : ℕ) (a : A) → option_map seen (slice_get objects i) ≡ Some a → option_map seen (slice_get (objects ++ o ∷ []) i) ≡ Some a
left_more seen [] o i a at = absurd (let bad : None ≡ Some a = at in cc)
left_more seen (x ∷ objects) o zero a at = at
left_more seen (x ∷ objects) o (suc i) a at = left_more seen objects o i a at

-- 2. References
pub live_changed : (objects : List Obj) (id : ℕ) (change : Obj → List (Key × Prop)) (p : ObjRef) → IsLive objects p → IsLive (changed objects id change) p
live_changed objects id change p live = left_changed (λ o. o.shape) objects id p.id (λ o. with_props o (change o)) (λ o. refl) ∙ live

pub live_inner : (objects : List Obj) (id : ℕ) (inner : InnerTerm) (p : ObjRef) → IsLive objects p → IsLive (with_inner objects id inner) p
live_inner objects id inner p live = left_changed (λ o. o.shape) objects id p.id (λ o. with_part o inner) (λ o. refl) ∙ live

pub live_more : (objects : List Obj) (o : Obj) (p : ObjRef) → IsLive objects p → IsLive (objects ++ o ∷ []) p
live_more objects o p live = left_more (λ o. o.shape) objects o p.id p.shape live

-- 3. What stands for definitions
homes_kept : (objects next : List Obj) (places : Homes) → ((kind : InnerKind) (p : ObjRef) → IsLiveAs kind objects p → IsLiveAs kind next p) → SoundHomes objects places → SoundHomes next places
homes_kept objects next places keeps sound = record {
  interfaces = λ i home at. keeps _ _ (sound.interfaces i home at);
  prototypes = λ i home at. keeps _ _ (sound.prototypes i home at);
  iterator_prototypes = λ i id home at has. keeps _ _ (sound.iterator_prototypes i id home at has);
  namespaces = λ i home at. keeps _ _ (sound.namespaces i home at);
}

pub homes_set : (objects : List Obj) (i : ℕ) (o x : Obj) (places : Homes) → i < length objects → o ≡ get_or objects i o → KeepsKind o x → SoundHomes objects places → SoundHomes (slice_set objects i x) places
homes_set objects i o x places small is keeps sound = homes_kept objects (slice_set objects i x) places by sound
  where
    at : slice_get objects i ≡ Some o
    at = slice_get_read objects (length objects) i o refl small is

    by : (kind : InnerKind) (p : ObjRef) → IsLiveAs kind objects p → IsLiveAs kind (slice_set objects i x) p
    by kind p held = record {
      live = left_set (λ (y : Obj). y.shape) objects i p.id o x at keeps.shape ∙ held.live;
      kind = left_set (λ (y : Obj). kind_of y.inner) objects i p.id o x at keeps.kind ∙ held.kind;
    }

pub homes_more : (objects : List Obj) (o : Obj) (places : Homes) → SoundHomes objects places → SoundHomes (objects ++ o ∷ []) places
homes_more objects o places sound = homes_kept objects (objects ++ o ∷ []) places by sound
  where
    by : (kind : InnerKind) (p : ObjRef) → IsLiveAs kind objects p → IsLiveAs kind (objects ++ o ∷ []) p
    by kind p held = record {
      live = left_more (λ (y : Obj). y.shape) objects o p.id p.shape held.live;
      kind = left_more (λ (y : Obj). kind_of y.inner) objects o p.id kind held.kind;
    }
