-- What holds of every store.
-- Source: ECMA-262, "Array Exotic Objects" and "Invariants of the Essential Internal Methods"; Web IDL, "Interface object", "Interface prototype object", "Iterator prototype object", "Namespace object"; that numbers fall along prototypes is this program's own.
use Rattle.std.specs.Prelude.{◌≡◌, ℕ, ◌<◌, true, List, [], ◌∷◌, slice_get, Some}
use Rattle.std.specs.List.{IsDistinct}
use Rattle.std.specs.Map.{keys_of}
use Rattle.std.specs.Option.{option_map}
use Rattle.widl_store.specs.declared.homes.Homes.{Homes}
use Rattle.widl_store.specs.declared.homes.IfaceHome.{IfaceHome}
use Rattle.widl_store.specs.declared.homes.SpaceHome.{SpaceHome}
use Rattle.widl_store.specs.declared.property.Prop.{Prop}
use Rattle.widl_store.specs.Inners.{InnerKind, APlain, AnInterface, ASpace, is_array, kind_of, has_shape}
use Rattle.widl_store.specs.Objects.{Obj, IsLive, same_key, flags_of, length_key, length_flags, plain_object, function_object}
use Rattle.widl_text.specs.declared.key.Key.{Key}
use Rattle.widl_value.specs.declared.object.ObjRef.{ObjRef}

-- the first property is a length
abbrev pub StartsWithLength : List (Key × Prop) → Type 0
StartsWithLength [] = ⊥
StartsWithLength (entry ∷ props) = (entry.0 ≡ length_key) × (flags_of entry.1 ≡ length_flags)

-- an array has its length first, and no key stands twice
pub record SoundProps (o : Obj) : Type 0 where
  pub array : is_array o.inner ≡ true → StartsWithLength o.props
  pub once : IsDistinct same_key (keys_of o.props)

-- of the object with this number: its prototype has a lower one, its shape agrees with its inner part
pub record SoundAt (id : ℕ) (o : Obj) : Type 0 where
  pub below : (p : ObjRef) → o.proto ≡ Some p → p.id < id
  pub shape : has_shape (kind_of o.inner) o.shape ≡ true
  pub props : SoundProps o

pub record Sound (objects : List Obj) : Type 0 where
  pub each : (id : ℕ) (o : Obj) → slice_get objects id ≡ Some o → SoundAt id o

-- the reference is live, and its object is of this kind
pub record IsLiveAs (expected : InnerKind) (objects : List Obj) (obj : ObjRef) : Type 0 where
  pub live : IsLive objects obj
  pub kind : option_map (λ o. kind_of o.inner) (slice_get objects obj.id) ≡ Some expected

-- what stands for a definition is live and of its kind: an interface or namespace object has the slots that are
-- counted at its number, and prototypes are ordinary objects
pub record SoundHomes (objects : List Obj) (places : Homes) : Type 0 where
  pub interfaces : (i : ℕ) (home : IfaceHome) → slice_get places.ifaces i ≡ Some home → IsLiveAs (AnInterface home.slots) objects (function_object home.object)
  pub prototypes : (i : ℕ) (home : IfaceHome) → slice_get places.ifaces i ≡ Some home → IsLiveAs APlain objects (plain_object home.prototype)
  pub iterator_prototypes : (i id : ℕ) (home : IfaceHome) → slice_get places.ifaces i ≡ Some home → home.pair_prototype ≡ Some id → IsLiveAs APlain objects (plain_object id)
  pub namespaces : (i : ℕ) (home : SpaceHome) → slice_get places.spaces i ≡ Some home → IsLiveAs (ASpace home.slots) objects (plain_object home.object)

-- the objects, those that stand for definitions, and the store's own copy of the key of lengths, which is that key
pub record SoundStore (objects : List Obj) (places : Homes) (lengths : Key) : Type 0 where
  pub sound : Sound objects
  pub homes : SoundHomes objects places
  pub key : lengths ≡ length_key

-- an object after a change has the shape and the kind that it had before
pub record KeepsKind (old new : Obj) : Type 0 where
  pub shape : new.shape ≡ old.shape
  pub kind : kind_of new.inner ≡ kind_of old.inner
