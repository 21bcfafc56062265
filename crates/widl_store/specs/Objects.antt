-- A store: objects by their numbers, and what each of them has at its keys, the oldest first.
-- Source: ECMA-262, "Ordinary Object Internal Methods and Internal Slots".
use Rattle.std.specs.Prelude.{◌≡◌, ℕ, Bool, true, false, not, if◌then◌else◌, bytes_eq, nat_eq, codes, List, [], ◌∷◌, ◌++◌, map, filter, slice_get, Option, Some, is_some, pos}
use Rattle.std.specs.Map.{lookup}
use Rattle.std.specs.Option.{option_and_then, option_map}
use Rattle.widl_idl.specs.declared.callee.Owner.TheVariants.{Iface, Space}
use Rattle.widl_store.specs.declared.homes.Home.{Home}
use Rattle.widl_store.specs.declared.homes.Home.TheVariants as places
use Rattle.widl_store.specs.declared.homes.Homes.{Homes}
use Rattle.widl_store.specs.declared.property.Prop.{Prop}
use Rattle.widl_store.specs.declared.property.Prop.TheVariants.{Plain, Accessor}
use Rattle.widl_store.specs.Inners.{InnerTerm}
use Rattle.widl_text.specs.declared.key.Key.{Key}
use Rattle.widl_text.specs.declared.key.Key.TheVariants.{Name, Sym}
use Rattle.widl_value.specs.declared.flags.Flags.{Flags}
use Rattle.widl_value.specs.declared.number.Number.TheVariants.{Whole}
use Rattle.widl_value.specs.declared.object.ObjRef.{ObjRef}
use Rattle.widl_value.specs.declared.object.Shape.{Shape}
use Rattle.widl_value.specs.declared.object.Shape.TheVariants as shapes
use Rattle.widl_value.specs.declared.value.Value.TheVariants.{Num}

-- what the store holds of an object
pub record Obj : Type 0 where
  pub proto : Option ObjRef
  pub shape : Shape
  pub props : List (Key × Prop)
  pub inner : InnerTerm

-- the objects, and the numbers of those that stand for definitions, which no effect changes
pub record StoreState : Type 0 where
  pub objects : List Obj
  pub homes : Homes

abbrev pub with_objects : StoreState → List Obj → StoreState
with_objects store objects = record { objects = objects; homes = store.homes }

abbrev pub same_key : Key → Key → Bool
same_key (Name a) (Name b) = bytes_eq a b
same_key (Name a) (Sym b) = false
same_key (Sym a) (Name b) = false
same_key (Sym a) (Sym b) = nat_eq a b

-- the property that the list has at the key
abbrev pub prop_at : List (Key × Prop) → Key → Option Prop
prop_at props key = lookup (same_key key) props

-- the property in the place of that which the key has
abbrev pub replaced : Key → Prop → Key × Prop → Key × Prop
replaced key prop entry = if same_key key entry.0 then (entry.0, prop) else entry

-- with the property at the key: in its place where the key is held, else last
abbrev pub with_prop : List (Key × Prop) → Key → Prop → List (Key × Prop)
with_prop props key prop = if is_some (prop_at props key) then map (replaced key prop) props else props ++ (key, prop) ∷ []

abbrev pub is_other : Key → Key × Prop → Bool
is_other key entry = not (same_key key entry.0)

-- without the property at the key
abbrev pub without_prop : List (Key × Prop) → Key → List (Key × Prop)
without_prop props key = filter (is_other key) props

abbrev pub flags_of : Prop → Flags
flags_of (Plain value flags) = flags
flags_of (Accessor getter setter flags) = flags

-- the flags of a property that an assignment makes
abbrev pub all_flags : Flags
all_flags = record { writable = true; enumerable = true; configurable = true }

-- the length of an array, and its flags
unfoldable pub length_key : Key
length_key = Name (codes "length")

abbrev pub length_flags : Flags
length_flags = record { writable = true; enumerable = false; configurable = false }

abbrev pub length_prop : ℕ → Prop
length_prop n = Plain (Num (Whole (pos n))) length_flags

-- the object itself has this property
abbrev pub own_at : List Obj → ℕ → Key → Option Prop
own_at objects id key = option_and_then (λ o. prop_at o.props key) (slice_get objects id)

-- the store holds the number that the reference has, with its shape
abbrev pub IsLive : List Obj → ObjRef → Type 0
IsLive objects obj = option_map (λ o. o.shape) (slice_get objects obj.id) ≡ Some obj.shape

abbrev pub plain_object : ℕ → ObjRef
plain_object id = record { id = id; shape = shapes.Plain }

abbrev pub function_object : ℕ → ObjRef
function_object id = record { id = id; shape = shapes.Callable }

-- the object that stands for a definition
abbrev pub home_of : Homes → Home → Option ObjRef
home_of homes (places.Owner (Iface i)) = option_map (λ h. function_object h.object) (slice_get homes.ifaces i)
home_of homes (places.Owner (Space i)) = option_map (λ h. plain_object h.object) (slice_get homes.spaces i)
home_of homes (places.Prototype i) = option_map (λ h. plain_object h.prototype) (slice_get homes.ifaces i)
home_of homes (places.PairPrototype i) = option_and_then (λ h. option_map plain_object h.pair_prototype) (slice_get homes.ifaces i)
