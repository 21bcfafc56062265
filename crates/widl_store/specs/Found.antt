-- What a search along the prototypes finds.
-- Source: ECMA-262, OrdinaryGet and OrdinaryGetOwnProperty.
use Rattle.std.specs.Prelude.{◌≡◌, ℕ, zero, suc, List, slice_get, Option, None, Some}
use Rattle.std.specs.Option.{option_and_then, option_map}
use Rattle.widl_store.specs.declared.found.Found.{Found}
use Rattle.widl_store.specs.declared.found.Found.TheVariants.{Held, Getter, NoGetter, Nothing}
use Rattle.widl_store.specs.declared.property.Prop.{Prop}
use Rattle.widl_store.specs.declared.property.Prop.TheVariants.{Plain, Accessor}
use Rattle.widl_store.specs.Objects.{Obj, prop_at, flags_of}
use Rattle.widl_text.specs.declared.key.Key.{Key}
use Rattle.widl_value.specs.declared.flags.Flags.{Flags}
use Rattle.widl_value.specs.declared.object.ObjRef.{ObjRef}
use Rattle.widl_value.specs.declared.value.Value.{Value}

-- the own property where there is one, else what the prototype gives
abbrev pub own_or : Option Prop → Option ObjRef → (ℕ → Option Prop) → Option Prop
own_or (Some prop) proto further = Some prop
own_or None None further = None
own_or None (Some p) further = further p.id

-- what the key finds on an object and its chain of prototypes, of which so many are asked at most
abbrev pub first_along : ℕ → List Obj → ℕ → Key → Option Prop
first_along zero objects id key = None
first_along (suc n) objects id key = option_and_then (λ o. own_or (prop_at o.props key) o.proto (λ i. first_along n objects i key)) (slice_get objects id)

-- what the key finds: numbers fall along a chain, so that many steps reach its end
unfoldable pub found_at : List Obj → ℕ → Key → Option Prop
found_at objects id key = first_along (suc id) objects id key

abbrev pub Holds : Value → Found → Type 0
Holds value (Held at) = at.now ≡ value
Holds value (Getter getter) = ⊥
Holds value NoGetter = ⊥
Holds value Nothing = ⊥

-- a search that found this property answers this
abbrev pub Shows : Option Prop → Found → Type 0
Shows None found = found ≡ Nothing
Shows (Some (Plain value flags)) found = Holds value found
Shows (Some (Accessor None setter flags)) found = found ≡ NoGetter
Shows (Some (Accessor (Some getter) setter flags)) found = found ≡ Getter getter

abbrev pub own_flags : Option Prop → Option Flags
own_flags prop = option_map flags_of prop
